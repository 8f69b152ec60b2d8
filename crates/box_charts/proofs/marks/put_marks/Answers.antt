-- `box_charts::marks::put_marks` meets its contract: cell by cell.
use Rattle.box_charts.proofs.Folds.{marks_none, marks_next}
use Rattle.box_charts.proofs.marks.put_marks.Goals as goal

pub loop-cell-init : goal.loop-cell-init
loop-cell-init c = marks_none _ _

pub loop-cell-preserved : goal.loop-cell-preserved
loop-cell-preserved c = marks_next _ _ c.loop-cell.cell c.loop-cell.invariant (rw c.from.ensures at c.put_mark_if.ensures)
