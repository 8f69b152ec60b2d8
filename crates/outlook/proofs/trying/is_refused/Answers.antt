-- `is_refused` meets its contract: each way out decides whether the clock has the time.
use borrow.Author.Tests.{le-leb, lt-leb}
use Rattle.outlook.proofs.trying.is_refused.Goals as goal

pub returns-then-time-le-EVENT_TIME_MAX : goal.returns-then-time-le-EVENT_TIME_MAX
returns-then-time-le-EVENT_TIME_MAX c =
    let at_call = c in
    simp (le-leb _ _ at_call.if-time-le-EVENT_TIME_MAX.true, at_call.call.ensures.0, at_call.event_at.ensures)

pub returns-else-time-le-EVENT_TIME_MAX : goal.returns-else-time-le-EVENT_TIME_MAX
returns-else-time-le-EVENT_TIME_MAX c = simp (lt-leb _ _ c.if-time-le-EVENT_TIME_MAX.false)
