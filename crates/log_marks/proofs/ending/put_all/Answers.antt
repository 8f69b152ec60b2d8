-- `log_marks::ending::put_all` meets its contract: title by title.
use mathlib.Core.Path.{refl, ◌∙◌}
use native.Mathlib.Omega.{arith}
use Rattle.text.proofs.Pages.{nothing}
use Rattle.log_marks.specs.Ending.{all_marks, all_kept}
use Rattle.moments.proofs.Due.{title_timed}
use Rattle.log_marks.proofs.Threaded.{all_next}
use Rattle.log_marks.proofs.ending.put_all.Goals as goal

pub loop-id-init : goal.loop-id-init
unfolding all_marks all_kept
loop-id-init c = (nothing, refl, c.requires.0)

pub loop-id-preserved : goal.loop-id-preserved
loop-id-preserved c =
    let n = all_next _ _ _ _ c.loop-id.id _ _ _ _ c.loop-id.invariant.0 c.loop-id.invariant.1 c.band_of.ensures c.title_at.ensures
    c.put_left.ensures.written c.put_left.ensures.kept_after in
    (n.0, n.1, c.put_left.auto.kept ∙ c.loop-id.invariant.2)

pub put_left-requires : goal.put_left-requires
put_left-requires c = (
  c.loop-id.invariant.2,
  (
    rw c.band_of.ensures (omega (arith, c.loop-id-test.true)),
    title_timed _ _ c.requires.1.ok (omega (arith, c.loop-id-test.true)) _ c.title_at.ensures,
  ),
)
