-- `shift` meets its contract: each way out decides the bit that goes out.
use mathlib.Core.Path.{refl}
use borrow.Author.Tests.{eq-eqb, ne_eqb}
use Rattle.sums.proofs.shift.Goals as goal

pub returns-then-r-eq1 : goal.returns-then-r-eq1
returns-then-r-eq1 c = rw (eq-eqb _ _ c.if-r-eq1.true) refl

pub returns : goal.returns
returns c = rw (ne_eqb _ _ c.if-r-eq1.false) refl
