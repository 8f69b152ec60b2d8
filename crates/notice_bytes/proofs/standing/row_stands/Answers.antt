-- `standing::row_stands` meets its contract: by whether the kind carries the row.
use native.Mathlib.Omega.{arith}
use Rattle.notice_fields.specs.Fields.{span_of}
use Rattle.notice_bytes.specs.Standing.{row_stands}
use Rattle.notice_bytes.proofs.standing.row_stands.Goals as goal

pub head_stands-requires : goal.head_stands-requires
unfolding span_of
head_stands-requires c =
    let asked = c.requires in
    (asked.0, omega (arith, rw (← c.carried.ensures, c.if-carried.true) at asked.1))

pub returns-then-carried : goal.returns-then-carried
unfolding row_stands
returns-then-carried c = rw (← c.carried.ensures, c.if-carried.true) c.head_stands.ensures

pub returns-else-carried : goal.returns-else-carried
unfolding row_stands
returns-else-carried c = rw (← c.carried.ensures, c.if-carried.false)
