-- `console_reasons::lanes::put_lane_reason` meets its contract: what is missing behind 3, else as of any question.
use borrow.Author.Tests.{eq-eqb, ne_eqb}
use Rattle.console_reasons.specs.Lanes.{lane_reason}
use Rattle.console_reasons.proofs.lanes.put_lane_reason.Goals as goal

pub returns-then-answer-eq-NOT_THERE : goal.returns-then-answer-eq-NOT_THERE
unfolding lane_reason
returns-then-answer-eq-NOT_THERE c = rw (eq-eqb _ _ c.if-answer-eq-NOT_THERE.true, ← c.presence.ensures) c.put_missing.ensures

pub returns-else-answer-eq-NOT_THERE : goal.returns-else-answer-eq-NOT_THERE
unfolding lane_reason
returns-else-answer-eq-NOT_THERE c = rw (ne_eqb _ _ c.if-answer-eq-NOT_THERE.false, ← c.last_in.ensures) c.put_asked.ensures
