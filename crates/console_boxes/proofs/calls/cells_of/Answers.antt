-- `console_boxes::calls::cells_of` meets its contract: the cells of an answer that is done, and none of another.
use borrow.Author.Tests.{eq-eqb, ne_eqb}
use Rattle.console_boxes.proofs.calls.cells_of.Goals as goal

pub pow2-requires : goal.pow2-requires
pow2-requires c = c.requires c.if-answer-eq-DONE.true

pub returns-then-answer-eq-DONE : goal.returns-then-answer-eq-DONE
returns-then-answer-eq-DONE c = rw (eq-eqb _ _ c.if-answer-eq-DONE.true) c.pow2.ensures.is

pub returns : goal.returns
returns c = rw (ne_eqb _ _ c.if-answer-eq-DONE.false)
