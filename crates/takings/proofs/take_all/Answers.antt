-- `takings::take_all` meets its contract: cell by cell.
use mathlib.Core.Path.{refl, ap, ◌∙◌}
use native.Mathlib.Nat.{le_antisymm}
use Rattle.plans.specs.Row.{written}
use Rattle.plans.proofs.Row.{written_next}
use Rattle.takings.proofs.take_all.Goals as goal

pub loop-cell-init : goal.loop-cell-init
unfolding written
loop-cell-init c = refl

pub loop-cell-preserved : goal.loop-cell-preserved
loop-cell-preserved c =
    written_next _ _ _ c.loop-cell.cell _ c.loop-cell.invariant c.place_of.ensures

pub returns : goal.returns
returns c =
    let l = c.loop-cell in
    l.invariant ∙ ap (written _ _) (le_antisymm l.auto.cell-end c.loop-cell-test.false)
