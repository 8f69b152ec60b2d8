-- `box_charts::marks::put_mark_if` meets its contract: nothing for a cell that is never taken.
use borrow.Author.Tests.{lt-ltb, le-ltb}
use Rattle.box_charts.specs.Marks.{mark_if}
use Rattle.text.proofs.Pages.{nothing}
use Rattle.box_charts.proofs.marks.put_mark_if.Goals as goal

pub returns-then-place-cells : goal.returns-then-place-cells
unfolding mark_if
returns-then-place-cells c = rw (lt-ltb _ _ c.if-place-cells.true) c.put_mark.ensures

pub returns-else-place-cells : goal.returns-else-place-cells
unfolding mark_if
returns-else-place-cells c = rw (le-ltb _ _ c.if-place-cells.false) nothing
