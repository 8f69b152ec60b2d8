-- `is_full` meets its contract: each way out decides whether the clock has the time.
use borrow.Author.Tests.{le-leb, lt-leb}
use Rattle.moments.proofs.releases.is_full.Goals as goal

pub lanes_held-requires : goal.lanes_held-requires
lanes_held-requires c = λ i b there. (c.requires i b there).film

pub returns-then-time-le-EVENT_TIME_MAX : goal.returns-then-time-le-EVENT_TIME_MAX
returns-then-time-le-EVENT_TIME_MAX c = simp (le-leb _ _ c.if-time-le-EVENT_TIME_MAX.true, ← c.lanes_held.ensures)

pub returns-else-time-le-EVENT_TIME_MAX : goal.returns-else-time-le-EVENT_TIME_MAX
returns-else-time-le-EVENT_TIME_MAX c = simp (lt-leb _ _ c.if-time-le-EVENT_TIME_MAX.false)
