-- `sooner` meets its contract: each way out decides whether the second moment lies after the time.
use borrow.Author.Tests.{le-leb, lt-leb}
use Rattle.moments.specs.inner.Steps.{sooner_of}
use Rattle.moments.proofs.releases.sooner.Goals as goal

pub returns-then-b-time : goal.returns-then-b-time
unfolding sooner_of
returns-then-b-time c = simp (le-leb _ _ c.if-b-time.true)

pub returns-else-b-time : goal.returns-else-b-time
unfolding sooner_of
returns-else-b-time c = simp (lt-leb _ _ c.if-b-time.false) c.min.ensures
