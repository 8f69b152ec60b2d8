-- `console_answers::outcomes::put_value` meets its contract: a number behind the 0, nothing behind a refusal.
use Rattle.console_answers.specs.Outcomes.{value_text}
use Rattle.console_answers.proofs.Answered.{told, refused}
use Rattle.console_answers.proofs.outcomes.put_value.Goals as goal

pub returns-then-answer-eq-DONE : goal.returns-then-answer-eq-DONE
unfolding value_text
returns-then-answer-eq-DONE c = told _ _ c.put_done.ensures c.if-answer-eq-DONE.true c.put_entry.ensures

pub returns-else-answer-eq-DONE : goal.returns-else-answer-eq-DONE
unfolding value_text
returns-else-answer-eq-DONE c = refused _ _ c.put_done.ensures c.if-answer-eq-DONE.false
