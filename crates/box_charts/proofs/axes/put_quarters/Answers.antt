-- `box_charts::axes::put_quarters` meets its contract: quarter by quarter.
use Rattle.box_charts.proofs.Folds.{quarters_none, quarters_next}
use Rattle.box_charts.proofs.axes.put_quarters.Goals as goal

pub loop-quarter-init : goal.loop-quarter-init
loop-quarter-init c = quarters_none _ _ _

pub loop-quarter-preserved : goal.loop-quarter-preserved
loop-quarter-preserved c = quarters_next _ _ _ c.loop-quarter.quarter c.loop-quarter.invariant c.put_quarter_line.ensures c.put_quarter_marks.ensures
