-- `ruling` meets its contract: each way out decides the title's mode.
use borrow.Author.Tests.{eq-eqb, ne_eqb}
use Rattle.story.specs.Kept.{ruling as rulingOf}
use Rattle.agent_rows.proofs.holding.ruling.Goals as goal

pub returns-then-mode-eq-OPEN : goal.returns-then-mode-eq-OPEN
unfolding rulingOf
returns-then-mode-eq-OPEN c = simp (eq-eqb _ _ c.if-mode-eq-OPEN.true)

pub returns-else-mode-eq-OPEN : goal.returns-else-mode-eq-OPEN
unfolding rulingOf
returns-else-mode-eq-OPEN c = simp (ne_eqb _ _ c.if-mode-eq-OPEN.false)
