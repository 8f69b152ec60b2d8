-- `chosen` meets its contract: each way out decides the bit.
use mathlib.Core.Path.{refl}
use borrow.Author.Tests.{eq-eqb, ne_eqb}
use Rattle.sums.proofs.moves.chosen.Goals as goal

pub returns-then-bit-eq1 : goal.returns-then-bit-eq1
returns-then-bit-eq1 c = rw (eq-eqb _ _ c.if-bit-eq1.true) refl

pub returns-else-bit-eq1 : goal.returns-else-bit-eq1
returns-else-bit-eq1 c = rw (ne_eqb _ _ c.if-bit-eq1.false) refl
