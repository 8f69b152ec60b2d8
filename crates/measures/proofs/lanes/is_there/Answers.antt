-- `is_there` meets its contract: each way out decides the tests up to it.
use borrow.Author.Tests.{eq-eqb, ne_eqb}
use Rattle.story.specs.Kept.{is_there}
use Rattle.measures.proofs.lanes.is_there.Goals as goal

pub returns-then-t-eq-OPEN : goal.returns-then-t-eq-OPEN
unfolding is_there
returns-then-t-eq-OPEN c = simp (eq-eqb _ _ c.if-t-eq-OPEN.true)

pub returns-else-t-eq-OPEN : goal.returns-else-t-eq-OPEN
unfolding is_there
returns-else-t-eq-OPEN c = simp (ne_eqb _ _ c.if-t-eq-OPEN.false, ← c.title_held.ensures.is)
