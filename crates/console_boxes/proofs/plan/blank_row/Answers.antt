-- `console_boxes::plan::blank_row` meets its contract.
use mathlib.Core.Path.{refl}
use Rattle.console_boxes.specs.Plan.{zeros}
use Rattle.console_boxes.proofs.plan.blank_row.Goals as goal

pub returns : goal.returns
unfolding zeros
returns c = (refl, refl)
