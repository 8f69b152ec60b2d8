-- `moved` meets its contract: each way out decides the test.
use borrow.Author.Tests.{eq-eqb, ne_eqb}
use Rattle.stretches.proofs.latest.moved.Goals as goal

pub returns-then-end-eq0 : goal.returns-then-end-eq0
returns-then-end-eq0 c = simp (eq-eqb _ _ c.if-end-eq0.true)

pub returns : goal.returns
returns c = simp (ne_eqb _ _ c.if-end-eq0.false)
