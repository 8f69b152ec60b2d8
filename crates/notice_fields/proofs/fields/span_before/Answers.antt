-- `fields::span_before` meets its contract, by its test.
-- Rests on the table's bound of a span.
use borrow.Author.Tests.{lt-ltb, le-ltb}
use native.Mathlib.Omega.{arith}
use Rattle.notice_fields.proofs.Table.{span_small}
use Rattle.notice_fields.proofs.fields.span_before.Goals as goal

pub returns-then-i-row : goal.returns-then-i-row
returns-then-i-row c = (
  rw (lt-ltb _ _ c.if-i-row.true) c.span.ensures,
  rw c.span.ensures (span_small _ _ c.requires),
)

pub returns-else-i-row : goal.returns-else-i-row
returns-else-i-row c = (rw (le-ltb _ _ c.if-i-row.false), omega arith)
