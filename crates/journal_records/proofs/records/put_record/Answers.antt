-- `put_record` meets its contract: the body, and behind it the sum of what stands in the room by then.
use Prim.Native.Nat.{◌+◌, ◌-◌, ◌≤◌}
use mathlib.Core.Path.{◌≡◌, sym, ap, ◌∙◌}
use native.Mathlib.Omega.{arith}
use lib.ListN.{length}
use lib.Seq.{length-sets}
use borrow.Author.Tests.{leb-true}
use Rattle.journal_records.specs.Records.{body_of}
use Rattle.journal_records.proofs.Laid.{body_there, record_laid, too_long_lem, no_room_lem, record_put}
use Rattle.journal_records.proofs.records.put_record.Tie as tie
use Rattle.journal_records.proofs.records.put_record.Lts as lts
use Rattle.journal_records.proofs.records.put_record.Reads as reads
use Rattle.journal_records.proofs.records.put_record.Goals as goal

pub returns-then-size-gt-PAYLOAD_MAX : goal.returns-then-size-gt-PAYLOAD_MAX
returns-then-size-gt-PAYLOAD_MAX c = too_long_lem _ _ _ _ _ _ c.if-size-gt-PAYLOAD_MAX.true

-- the record has room
fits : (c : lts.Then2 tie.the-claims reads.Pre reads.Post) → let a = c.args in
    a.at + (15 + length a.payload.now) ≤ length a.room.now
fits c =
    let a = c.args in
    leb-true (a.at + (15 + length a.payload.now)) (length a.room.now) (sym c.has_room.ensures ∙ c.if-has_room.true)

pub put_body-requires : goal.put_body-requires
put_body-requires c = omega (arith, fits c.before.before)

-- with the body the room is as long as before
long : (c : lts.After-put_body tie.the-claims reads.Pre reads.Post) → let a = c.args in
    length c.put_body.new.room ≡ length a.room.now
long c =
    let a = c.args in
    ap length c.put_body.ensures ∙ length-sets a.room.now a.at (body_of a.number a.kind a.payload.now)

pub overflow_add-end : goal.overflow_add-end
overflow_add-end c = omega (arith, fits c.before.before.before.before.before)

pub overflow_add-end-then-has_room : goal.overflow_add-end-then-has_room
overflow_add-end-then-has_room c = omega (arith, fits c.before.before.before.before.before)

pub slice_bounds-sum_joined-end : goal.slice_bounds-sum_joined-end
slice_bounds-sum_joined-end c =
    let body = c in
    omega (arith, long c.before.before.before, fits c.before.before.before.before.before)

pub put-requires : goal.put-requires
put-requires c =
    let body = c in
    omega (arith, long c.before.before.before.before.before.before, fits c.before.before.before.before.before.before.before.before)

pub overflow_add-result : goal.overflow_add-result
overflow_add-result c = record { fits = omega (arith, fits c.before.before.before.before.before.before.before.before.before.before.before) }

pub returns-then-has_room : goal.returns-then-has_room
returns-then-has_room c =
    let sum = c in
    let total = sum in
    let body = total in
    let room = body in
    let a = room.args in
    let e : a.at + 11 + length a.payload.now - a.at ≡ 11 + length a.payload.now = omega arith in
    let f : a.at + 11 + length a.payload.now ≡ a.at + (11 + length a.payload.now) = omega arith in
    rw (
      sum.put.ensures,
      total.sum_joined-total.ensures,
      body.put_body.ensures,
      e,
      body_there a.identity.now a.room.now a.at a.number a.kind a.payload.now (fits c.before.before.before.before.before.before.before.before.before.before.before),
      f,
      record_laid a.identity.now a.room.now a.at a.number a.kind a.payload.now (fits c.before.before.before.before.before.before.before.before.before.before.before),
    )
    (record_put _ _ _ _ _ _ room.if-size-gt-PAYLOAD_MAX.false (sym room.has_room.ensures ∙ room.if-has_room.true) _ (omega arith))

pub returns : goal.returns
returns c = no_room_lem _ _ _ _ _ _ c.if-size-gt-PAYLOAD_MAX.false (sym c.has_room.ensures ∙ c.if-has_room.false)
