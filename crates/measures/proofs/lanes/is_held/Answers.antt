-- `is_held` meets its contract: each way out decides whether the lane is active.
use borrow.Author.Tests.{lt-ltb, le-ltb}
use Rattle.story.specs.Kept.{kept_held}
use Rattle.measures.proofs.lanes.is_held.Goals as goal

pub returns-then-lane-ruling : goal.returns-then-lane-ruling
unfolding kept_held
returns-then-lane-ruling c = simp (← c.ruling.ensures, lt-ltb _ _ c.if-lane-ruling.true)

pub returns-else-lane-ruling : goal.returns-else-lane-ruling
unfolding kept_held
returns-else-lane-ruling c = simp (← c.ruling.ensures, le-ltb _ _ c.if-lane-ruling.false) c.is_sending.ensures
