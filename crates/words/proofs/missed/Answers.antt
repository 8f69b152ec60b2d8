-- `words::missed` meets its contract: the floor below it, else the cap.
use borrow.Author.Tests.{eq-eqb, ne_eqb}
use Rattle.words.specs.Words.{missed}
use Rattle.words.proofs.missed.Goals as goal

pub returns-then-number-eq-BELOW_FLOOR : goal.returns-then-number-eq-BELOW_FLOOR
unfolding missed
returns-then-number-eq-BELOW_FLOOR c = simp (eq-eqb _ _ c.if-number-eq-BELOW_FLOOR.true)

pub returns-else-number-eq-BELOW_FLOOR : goal.returns-else-number-eq-BELOW_FLOOR
unfolding missed
returns-else-number-eq-BELOW_FLOOR c = simp (ne_eqb _ _ c.if-number-eq-BELOW_FLOOR.false)
