-- `is_holding` meets its contract: each way out decides whether the clock has the time.
use borrow.Author.Tests.{le-leb, lt-leb}
use Rattle.moments.proofs.releases.is_holding.Goals as goal

pub title_held-requires : goal.title_held-requires
title_held-requires c = λ there. c.requires.film

pub returns-then-time-le-EVENT_TIME_MAX : goal.returns-then-time-le-EVENT_TIME_MAX
returns-then-time-le-EVENT_TIME_MAX c = simp (le-leb _ _ c.if-time-le-EVENT_TIME_MAX.true, ← c.title_held.ensures.is)

pub returns-else-time-le-EVENT_TIME_MAX : goal.returns-else-time-le-EVENT_TIME_MAX
returns-else-time-le-EVENT_TIME_MAX c = simp (lt-leb _ _ c.if-time-le-EVENT_TIME_MAX.false)
