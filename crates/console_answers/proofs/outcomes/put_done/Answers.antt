-- `console_answers::outcomes::put_done` meets its contract: 0, or the refusal.
use borrow.Author.Tests.{eq-eqb, ne_eqb}
use Rattle.text.specs.Texts.{text}
use Rattle.console_answers.specs.Outcomes.{done_text}
use Rattle.console_answers.proofs.outcomes.put_done.Goals as goal

pub returns-then-answer-eq-DONE : goal.returns-then-answer-eq-DONE
unfolding done_text text
returns-then-answer-eq-DONE c = rw (eq-eqb _ _ c.if-answer-eq-DONE.true) c.put.ensures

pub returns-else-answer-eq-DONE : goal.returns-else-answer-eq-DONE
unfolding done_text
returns-else-answer-eq-DONE c = rw (ne_eqb _ _ c.if-answer-eq-DONE.false) c.put_refusal.ensures
