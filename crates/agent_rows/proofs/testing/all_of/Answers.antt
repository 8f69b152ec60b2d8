-- `all_of` meets its contract: no number passed is above those or-ed.
use Prim.Native.Nat.{◌+◌, ◌-◌}
use mathlib.Core.Path.{◌≡◌, ◌∙◌}
use mathlib.Core.Logic.{⊎_elim}
use native.Mathlib.Omega.{arith}
use native.Mathlib.Numerals.{add-one}
use native.Mathlib.Nat.{le_trans}
use lib.ListN.{get_or, take, drop}
use lib.Seq.{get_or-take, get_or-drop}
use Rattle.rules.proofs.Search.{below_suc}
use Rattle.agent_rows.specs.Layout.{title_places}
use Rattle.agent_rows.proofs.Tested.{or_above}
use Rattle.agent_rows.proofs.testing.all_of.Goals as goal

pub loop-number-init : goal.loop-number-init
loop-number-init c = λ j l. absurd (omega arith)

pub loop-number-preserved : goal.loop-number-preserved
loop-number-preserved c =
    let l = c.loop-number in
    let r = c.args.row.now in
    let at = c.args.at in
    let here : get_or (take (at + title_places - at) (drop at r)) l.number-index 0 ≡ get_or r (at + l.number-index) 0 =
    get_or-take (at + title_places - at) (drop at r) l.number-index 0 (omega arith) ∙ get_or-drop at r l.number-index 0 in
    let two-above = or_above l.all (get_or r (at + l.number-index) 0) in
    rw here
    (λ j b.
    ⊎_elim (λ below. le_trans (l.invariant j below) two-above.0) (λ e. rw e two-above.1) (below_suc j l.number-index (rw (add-one l.number-index) at b)))

pub returns : goal.returns
returns c = λ j l. c.loop-number.invariant j (omega arith)
