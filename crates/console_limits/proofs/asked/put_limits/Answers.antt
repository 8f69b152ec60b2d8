-- `console_limits::asked::put_limits` meets its contract: which number is out of its limits, behind 1 alone.
use borrow.Author.Tests.{eq-eqb, ne_eqb}
use Rattle.console_limits.specs.Asked.{limit_reason}
use Rattle.text.proofs.Pages.{nothing}
use Rattle.console_limits.proofs.asked.put_limits.Goals as goal

pub returns-then-answer-eq-OUTSIDE_LIMITS : goal.returns-then-answer-eq-OUTSIDE_LIMITS
unfolding limit_reason
returns-then-answer-eq-OUTSIDE_LIMITS c = rw (eq-eqb _ _ c.if-answer-eq-OUTSIDE_LIMITS.true) c.put_out.ensures

pub returns-else-answer-eq-OUTSIDE_LIMITS : goal.returns-else-answer-eq-OUTSIDE_LIMITS
unfolding limit_reason
returns-else-answer-eq-OUTSIDE_LIMITS c = rw (ne_eqb _ _ c.if-answer-eq-OUTSIDE_LIMITS.false) nothing
