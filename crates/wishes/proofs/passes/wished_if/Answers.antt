-- `wished_if` meets its contract: where the test holds there is room for one wish more.
use native.Mathlib.Omega.{arith}
use Rattle.wishes.proofs.passes.wished_if.Goals as goal

pub wished-requires : goal.wished-requires
wished-requires c = omega (arith, rw c.if-yes.true at c.requires)

pub returns-then-yes : goal.returns-then-yes
returns-then-yes c = simp c.if-yes.true c.wished.ensures

pub returns : goal.returns
returns c = simp c.if-yes.false
