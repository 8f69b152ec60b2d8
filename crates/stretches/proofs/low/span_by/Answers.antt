-- `span_by` meets its contract: each way out decides the test.
use borrow.Author.Tests.{le-leb, lt-leb}
use Rattle.stretches.proofs.low.span_by.Goals as goal

pub returns-then-left-width : goal.returns-then-left-width
returns-then-left-width c = simp (le-leb _ _ c.if-left-width.true)

pub returns-else-left-width : goal.returns-else-left-width
returns-else-left-width c = simp (lt-leb _ _ c.if-left-width.false)
