-- `decode::kind_in` meets its contract: by the kind's number, whose rows are all carried.
use native.Mathlib.Omega.{arith}
use borrow.Author.Tests.{eq-eqb, ne_eqb}
use Rattle.notice_fields.specs.Fields.{table}
use Rattle.notice.specs.Decode.{kind_in}
use Rattle.notice.proofs.decode.kind_in.Goals as goal

pub value-length-requires : goal.value-length-requires
unfolding table
value-length-requires c = (omega arith, (c.requires.0, rw c.if-kind-eq-OPEN.true))

pub overflow_cast-length : goal.overflow_cast-length
unfolding table
overflow_cast-length c = record { fits = c.value-length.ensures.1 }

pub value-floor-requires : goal.value-floor-requires
unfolding table
value-floor-requires c = (omega arith, (c.requires.0, rw c.if-kind-eq-OPEN.true))

pub overflow_cast-floor : goal.overflow_cast-floor
unfolding table
overflow_cast-floor c = record { fits = c.value-floor.ensures.1 }

pub value-cap-requires : goal.value-cap-requires
unfolding table
value-cap-requires c = (omega arith, (c.requires.0, rw c.if-kind-eq-OPEN.true))

pub overflow_cast-cap : goal.overflow_cast-cap
unfolding table
overflow_cast-cap c = record { fits = c.value-cap.ensures.1 }

pub value-count-requires : goal.value-count-requires
unfolding table
value-count-requires c =
    let tested = c in
    (omega arith, (tested.requires.0, rw tested.if-kind-eq-OPEN.true))

pub overflow_cast-count : goal.overflow_cast-count
unfolding table
overflow_cast-count c = record { fits = c.value-count.ensures.1 }

pub returns-then-kind-eq-OPEN : goal.returns-then-kind-eq-OPEN
unfolding kind_in
returns-then-kind-eq-OPEN c =
    simp (
      eq-eqb _ _ c.if-kind-eq-OPEN.true,
      c.value-length.ensures.0,
      c.value-floor.ensures.0,
      c.value-cap.ensures.0,
      c.value-count.ensures.0,
    )

pub value-count-requires-then-kind-eq-CHANGE : goal.value-count-requires-then-kind-eq-CHANGE
unfolding table
value-count-requires-then-kind-eq-CHANGE c = (omega arith, (c.requires.0, rw c.if-kind-eq-CHANGE.true))

pub overflow_cast-count-then-kind-eq-CHANGE : goal.overflow_cast-count-then-kind-eq-CHANGE
unfolding table
overflow_cast-count-then-kind-eq-CHANGE c = record { fits = c.value-count-then-kind-eq-CHANGE.ensures.1 }

pub returns-then-kind-eq-CHANGE : goal.returns-then-kind-eq-CHANGE
unfolding kind_in
returns-then-kind-eq-CHANGE c =
    simp (ne_eqb _ _ c.if-kind-eq-OPEN.false, eq-eqb _ _ c.if-kind-eq-CHANGE.true, c.value-count-then-kind-eq-CHANGE.ensures.0)

pub value-length-requires-then-kind-eq-SKIP : goal.value-length-requires-then-kind-eq-SKIP
unfolding table
value-length-requires-then-kind-eq-SKIP c = (omega arith, (c.requires.0, rw c.if-kind-eq-SKIP.true))

pub overflow_cast-length-then-kind-eq-SKIP : goal.overflow_cast-length-then-kind-eq-SKIP
unfolding table
overflow_cast-length-then-kind-eq-SKIP c = record { fits = c.value-length-then-kind-eq-SKIP.ensures.1 }

pub value-count-requires-then-kind-eq-SKIP : goal.value-count-requires-then-kind-eq-SKIP
unfolding table
value-count-requires-then-kind-eq-SKIP c =
    let tested = c in
    (omega arith, (tested.requires.0, rw tested.if-kind-eq-SKIP.true))

pub overflow_cast-count-then-kind-eq-SKIP : goal.overflow_cast-count-then-kind-eq-SKIP
unfolding table
overflow_cast-count-then-kind-eq-SKIP c = record { fits = c.value-count-then-kind-eq-SKIP.ensures.1 }

pub returns-then-kind-eq-SKIP : goal.returns-then-kind-eq-SKIP
unfolding kind_in
returns-then-kind-eq-SKIP c =
    let skip = c in
    let change = skip in
    simp (
      ne_eqb _ _ change.if-kind-eq-OPEN.false,
      ne_eqb _ _ change.if-kind-eq-CHANGE.false,
      eq-eqb _ _ skip.if-kind-eq-SKIP.true,
      c.value-length-then-kind-eq-SKIP.ensures.0,
      c.value-count-then-kind-eq-SKIP.ensures.0,
    )

pub returns-then-kind-eq-CLOSE : goal.returns-then-kind-eq-CLOSE
unfolding kind_in
returns-then-kind-eq-CLOSE c =
    let skip = c in
    let change = skip in
    simp (
      ne_eqb _ _ change.if-kind-eq-OPEN.false,
      ne_eqb _ _ change.if-kind-eq-CHANGE.false,
      ne_eqb _ _ skip.if-kind-eq-SKIP.false,
      eq-eqb _ _ c.if-kind-eq-CLOSE.true,
    )

pub returns-then-kind-eq-HOLD : goal.returns-then-kind-eq-HOLD
unfolding kind_in
returns-then-kind-eq-HOLD c =
    let close = c in
    let skip = close in
    let change = skip in
    simp (
      ne_eqb _ _ change.if-kind-eq-OPEN.false,
      ne_eqb _ _ change.if-kind-eq-CHANGE.false,
      ne_eqb _ _ skip.if-kind-eq-SKIP.false,
      ne_eqb _ _ close.if-kind-eq-CLOSE.false,
      eq-eqb _ _ c.if-kind-eq-HOLD.true,
    )

pub returns : goal.returns
unfolding kind_in
returns c =
    let close = c in
    let skip = close in
    let change = skip in
    simp (
      ne_eqb _ _ change.if-kind-eq-OPEN.false,
      ne_eqb _ _ change.if-kind-eq-CHANGE.false,
      ne_eqb _ _ skip.if-kind-eq-SKIP.false,
      ne_eqb _ _ close.if-kind-eq-CLOSE.false,
      ne_eqb _ _ c.if-kind-eq-HOLD.false,
    )
