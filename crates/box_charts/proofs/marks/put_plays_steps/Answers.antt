-- `box_charts::marks::put_plays_steps` meets its contract: cell by cell.
use Rattle.box_charts.proofs.Folds.{plays_none, plays_next}
use Rattle.box_charts.proofs.marks.put_plays_steps.Goals as goal

pub loop-cell-init : goal.loop-cell-init
loop-cell-init c = plays_none _

pub loop-cell-preserved : goal.loop-cell-preserved
loop-cell-preserved c =
    plays_next _ c.loop-cell.cell c.loop-cell.invariant c.x_of.ensures.0 c.y_of.ensures.0 c.put_step.ensures c.put_step-in-loop-cell.ensures
