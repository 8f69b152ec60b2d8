-- `headend_desk::put_taken` meets its contract: the console's answer, and the sequence behind a 0.
use mathlib.Core.List.{append-nil}
use borrow.Author.Tests.{eq-eqb, ne_eqb}
use Rattle.text.proofs.Pages.{then}
use Rattle.headend_desk.specs.Desk.{head_told}
use Rattle.headend_desk.proofs.put_taken.Goals as goal

pub returns-then-answer-eq-DONE : goal.returns-then-answer-eq-DONE
unfolding head_told
returns-then-answer-eq-DONE c = rw (eq-eqb _ _ c.if-answer-eq-DONE.true) (then c.put_followed.ensures c.put_entry.ensures)

pub returns-else-answer-eq-DONE : goal.returns-else-answer-eq-DONE
unfolding head_told
returns-else-answer-eq-DONE c = rw (ne_eqb _ _ c.if-answer-eq-DONE.false, append-nil) c.put_followed.ensures
