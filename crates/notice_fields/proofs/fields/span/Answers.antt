-- `fields::span` meets its contract: by whether the kind carries the row.
-- Rests on the table's law that a value has at most eight bytes.
use native.Mathlib.Omega.{arith}
use Rattle.notice_fields.specs.Fields.{span_of}
use Rattle.notice_fields.proofs.Table.{sound}
use Rattle.notice_fields.proofs.fields.span.Goals as goal

pub overflow_add-result : goal.overflow_add-result
overflow_add-result c = rw c.entry-f.ensures (omega (arith, sound _ c.requires))

pub returns-then-carried : goal.returns-then-carried
unfolding span_of
returns-then-carried c = simp (← c.carried.ensures, c.if-carried.true, c.entry-f.ensures)

pub returns-else-carried : goal.returns-else-carried
unfolding span_of
returns-else-carried c = simp (← c.carried.ensures, c.if-carried.false)
