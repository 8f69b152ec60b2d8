-- `takings::peak_of` meets its contract: tick by tick.
use mathlib.Core.Path.{ap, ◌∙◌}
use native.Mathlib.Nat.{le_antisymm}
use Rattle.takings.specs.Takings.{peak_to}
use Rattle.takings.proofs.Peaks.{peak_none, peak_higher, peak_stays}
use Rattle.takings.proofs.peak_of.Goals.{then-most-many, else-most-many}
use Rattle.takings.proofs.peak_of.Goals as goal

pub loop-tick-init : goal.loop-tick-init
loop-tick-init c = peak_none _

pub loop-tick-preserved : goal.loop-tick-preserved
loop-tick-preserved c =
    let l = c.loop-tick in
    elim c.if-most-many.branch [
      | then-most-many w ↦
          w.most-is ∙ peak_higher _ l.tick _ l.most l.invariant c.kept_at-many.ensures.0 w.if-most-many.true
      | else-most-many w ↦
          w.most-is ∙ peak_stays _ l.tick _ l.most l.invariant c.kept_at-many.ensures.0 w.if-most-many.false
    ]

pub returns : goal.returns
returns c =
    let l = c.loop-tick in
    l.invariant ∙ ap (peak_to _) (le_antisymm l.auto.tick-end c.loop-tick-test.false)
