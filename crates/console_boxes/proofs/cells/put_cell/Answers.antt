-- `console_boxes::cells::put_cell` meets its contract: `-` for a cell never taken, else its number.
use borrow.Author.Tests.{eq-eqb, ne_eqb}
use Rattle.text.specs.Texts.{text}
use Rattle.console_boxes.specs.Plan.{cell_entry}
use Rattle.console_boxes.proofs.cells.put_cell.Goals as goal

pub returns-then-n-eq-NEVER : goal.returns-then-n-eq-NEVER
unfolding cell_entry text
returns-then-n-eq-NEVER c = rw (eq-eqb _ _ c.if-n-eq-NEVER.true) c.put.ensures

pub returns-else-n-eq-NEVER : goal.returns-else-n-eq-NEVER
unfolding cell_entry
returns-else-n-eq-NEVER c = rw (ne_eqb _ _ c.if-n-eq-NEVER.false) c.put_entry.ensures
