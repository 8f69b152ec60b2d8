-- `drops_from` meets its contract: no number of a lane passed is above those or-ed.
use Prim.Native.Nat.{◌+◌}
use mathlib.Core.Logic.{⊎_elim}
use native.Mathlib.Omega.{arith}
use native.Mathlib.Numerals.{add-one}
use native.Mathlib.Nat.{le_trans}
use lib.Bits.{bit_or}
use lib.ListN.{get_or}
use Rattle.rules.proofs.Search.{below_suc}
use Rattle.agent_rows.specs.Layout.{drops_at, owed_at}
use Rattle.agent_rows.proofs.Tested.{or_above}
use Rattle.agent_rows.proofs.holding.drops_from.Goals as goal

pub loop-lane-init : goal.loop-lane-init
loop-lane-init c = λ l low high. absurd (omega arith)

pub loop-lane-preserved : goal.loop-lane-preserved
loop-lane-preserved c =
    let l = c.loop-lane in
    let a = c.args in
    let r = a.row.now in
    let d = get_or r (a.at + drops_at + l.lane) 0 in
    let o = get_or r (a.at + owed_at + l.lane) 0 in
    let both-above = or_above l.all (bit_or d o) in
    let two-above = or_above d o in
    λ j low high.
    ⊎_elim (λ below. let old = l.invariant j low below in (le_trans old.0 both-above.0, le_trans old.1 both-above.0))
    (λ e. rw e (le_trans two-above.0 both-above.1, le_trans two-above.1 both-above.1)) (below_suc j l.lane (rw (add-one l.lane) at high))

pub returns : goal.returns
returns c = λ l low high. c.loop-lane.invariant l low (omega arith)
