-- `laying::put_row` meets its contract: the field, or nothing where the kind does not carry it.
use Rattle.notice_fields.specs.Fields.{span_of}
use Rattle.notice_bytes.specs.Laying.{row_bytes}
use Rattle.notice_bytes.proofs.laying.put_row.Goals as goal

pub put_field-requires : goal.put_field-requires
unfolding span_of
put_field-requires c = (
  c.requires.0,
  rw (← c.carried.ensures, c.if-carried.true) at c.requires.1,
)

pub returns-then-carried : goal.returns-then-carried
unfolding row_bytes
returns-then-carried c =
    let tested = c in
    rw (← tested.carried.ensures, tested.if-carried.true) c.put_field.ensures

pub returns-else-carried : goal.returns-else-carried
unfolding row_bytes
returns-else-carried c = rw (← c.carried.ensures, c.if-carried.false)
