-- `text::numbers::above` meets its contract: its tests are those of the definition.
use borrow.Author.Tests.{eq-eqb, ne_eqb}
use Rattle.text.specs.Numbers.{above}
use Rattle.text.proofs.numbers.above.Goals as goal

pub returns-then-n : goal.returns-then-n
unfolding above
returns-then-n c = rw (ne_eqb _ _ c.if-limit-ne0.true, c.if-n.true)

pub returns-else-n : goal.returns-else-n
unfolding above
returns-else-n c = rw (ne_eqb _ _ c.if-limit-ne0.true, c.if-n.false)

pub returns-else-limit-ne0 : goal.returns-else-limit-ne0
unfolding above
returns-else-limit-ne0 c = rw (eq-eqb _ _ c.if-limit-ne0.false)
