-- `ruling` meets its contract: each way out decides the title's mode.
use borrow.Author.Tests.{eq-eqb, ne_eqb}
use Rattle.story.specs.Kept.{ruling as rulingOf}
use Rattle.measures.proofs.lanes.ruling.Goals as goal

pub returns-then-t-eq-OPEN : goal.returns-then-t-eq-OPEN
unfolding rulingOf
returns-then-t-eq-OPEN c = simp (eq-eqb _ _ c.if-t-eq-OPEN.true)

pub returns-else-t-eq-OPEN : goal.returns-else-t-eq-OPEN
unfolding rulingOf
returns-else-t-eq-OPEN c = simp (ne_eqb _ _ c.if-t-eq-OPEN.false)
