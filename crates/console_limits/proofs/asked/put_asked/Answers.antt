-- `console_limits::asked::put_asked` meets its contract: the last event behind 2, else as `put_limits`.
use borrow.Author.Tests.{eq-eqb, ne_eqb}
use Rattle.console_limits.specs.Asked.{asked_reason}
use Rattle.console_limits.proofs.asked.put_asked.Goals as goal

pub returns-then-answer-eq-TOO_EARLY : goal.returns-then-answer-eq-TOO_EARLY
unfolding asked_reason
returns-then-answer-eq-TOO_EARLY c = rw (eq-eqb _ _ c.if-answer-eq-TOO_EARLY.true) c.put_last.ensures

pub returns-else-answer-eq-TOO_EARLY : goal.returns-else-answer-eq-TOO_EARLY
unfolding asked_reason
returns-else-answer-eq-TOO_EARLY c = rw (ne_eqb _ _ c.if-answer-eq-TOO_EARLY.false) c.put_limits.ensures
