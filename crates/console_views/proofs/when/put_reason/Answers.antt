-- `console_views::when::put_reason` meets its contract: what became of the title behind 3, else the event's own reason.
use borrow.Author.Tests.{eq-eqb, ne_eqb}
use Rattle.console_views.specs.When.{when_reason}
use Rattle.console_views.proofs.when.put_reason.Goals as goal

pub returns-then-answer-eq-NOT_THERE : goal.returns-then-answer-eq-NOT_THERE
unfolding when_reason
returns-then-answer-eq-NOT_THERE c =
    rw (eq-eqb _ _ c.if-answer-eq-NOT_THERE.true, ← c.max-time.ensures, ← c.presence.ensures) c.put_missing.ensures

pub returns-else-answer-eq-NOT_THERE : goal.returns-else-answer-eq-NOT_THERE
unfolding when_reason
returns-else-answer-eq-NOT_THERE c = rw (ne_eqb _ _ c.if-answer-eq-NOT_THERE.false) c.put_reason.ensures
