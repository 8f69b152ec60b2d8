-- `air::lines::put_result` meets its contract: a dash where no cell was missed.
use borrow.Author.Tests.{eq-eqb, ne_eqb}
use Rattle.text.specs.Texts.{text}
use Rattle.air.specs.Lines.{cell_text}
use Rattle.air.proofs.lines.put_result.Goals as goal

pub returns-then-cell-eq-NOTHING_SEEN : goal.returns-then-cell-eq-NOTHING_SEEN
unfolding cell_text text
returns-then-cell-eq-NOTHING_SEEN c = rw (eq-eqb _ _ c.if-cell-eq-NOTHING_SEEN.true) c.put.ensures

pub returns-else-cell-eq-NOTHING_SEEN : goal.returns-else-cell-eq-NOTHING_SEEN
unfolding cell_text text
returns-else-cell-eq-NOTHING_SEEN c = rw (ne_eqb _ _ c.if-cell-eq-NOTHING_SEEN.false) c.put_number.ensures
