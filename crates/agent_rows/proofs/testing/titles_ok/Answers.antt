-- `titles_ok` meets its contract: the loop has tested the small numbers of every title passed, and none of their numbers is above those
-- or-ed.
use mathlib.Core.Path.{◌≡◌, refl, sym, ap, ap₂, ◌∙◌}
use mathlib.Core.Logic.{⊎_elim}
use native.Mathlib.Omega.{arith}
use native.Mathlib.Numerals.{add-one}
use native.Mathlib.Nat.{le_antisymm, le_trans}
use borrow.Author.Tests.{le-leb}
use Rattle.rules.specs.Limits.{both, titles_max}
use Rattle.rules.specs.Search.{every}
use Rattle.rules.proofs.Search.{below_suc}
use Rattle.agent_rows.proofs.Tested.{or_above, all_low}
use Rattle.agent_rows.proofs.testing.titles_ok.Goals.{then-small_ok, else-small_ok}
use Rattle.agent_rows.proofs.testing.titles_ok.Goals as goal

pub loop-i-init : goal.loop-i-init
unfolding every
loop-i-init c = (refl, λ j b. absurd (omega arith))

pub loop-i-preserved : goal.loop-i-preserved
unfolding every
loop-i-preserved c =
    let l = c.loop-i in
    let two-above = or_above l.all c.all_of-all.result in
    let ok : c.if-small_ok.ok ≡ both c.small_ok.result l.ok = elim c.if-small_ok.branch [
      | then-small_ok w ↦ simp (w.if-small_ok.true, w.ok-is)
      | else-small_ok w ↦ simp (w.if-small_ok.false, w.ok-is)
    ] in (
      rw (add-one l.i) (ok ∙ ap₂ both c.small_ok.ensures l.invariant.0),
      λ j b k d.
          ⊎_elim (λ below. le_trans (l.invariant.1 j below k d) two-above.0) (λ e. rw e (le_trans (c.all_of-all.ensures k d) two-above.1))
          (below_suc j l.i (rw (add-one l.i) at b)),
    )

pub returns-then-all-le-ASKED_MAX : goal.returns-then-all-le-ASKED_MAX
returns-then-all-le-ASKED_MAX c =
    let l = c.loop-i in
    let done : l.i ≡ titles_max = le_antisymm l.auto.i-end c.loop-i-test.false in
    let smalls = sym (l.invariant.0 ∙ ap (every _) done) ∙ c.if-ok.true in
    let low = all_low c.args.row.now (λ i b j d. le_trans (l.invariant.1 i (rw done b) j d) c.if-all-le-ASKED_MAX.true) in
    le-leb _ _ c.if-all-le-ASKED_MAX.true ∙ sym (ap₂ both smalls low)
