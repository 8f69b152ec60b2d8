-- `playouts::window::put_told` meets its contract: the numbers where the answer is done, else the refusal.
use borrow.Author.Tests.{eq-eqb, ne_eqb}
use Rattle.playouts.specs.inner.Steps.{printed_text}
use Rattle.playouts.proofs.window.put_told.Goals as goal

pub returns-then-answer-eq-DONE : goal.returns-then-answer-eq-DONE
unfolding printed_text
returns-then-answer-eq-DONE c = rw (eq-eqb _ _ c.if-answer-eq-DONE.true) c.put_numbers.ensures

pub returns-else-answer-eq-DONE : goal.returns-else-answer-eq-DONE
unfolding printed_text
returns-else-answer-eq-DONE c = rw (ne_eqb _ _ c.if-answer-eq-DONE.false) c.put_refused.ensures
