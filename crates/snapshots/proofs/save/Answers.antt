-- `save` meets its contract: the bytes of the row's numbers, and behind them the sum of what stands in the room by then.
use native.Mathlib.Omega.{arith}
use mathlib.Core.Path.{sym, ap, ◌∙◌}
use lib.ListN.{length}
use lib.Seq.{length-take-le, length-sets}
use Rattle.snapshots.specs.Bytes.{number_bytes}
use Rattle.snapshots.proofs.Answered.{save_odd, save_short, save_done}
use Rattle.snapshots.proofs.Laying.{summed, saved}
use Rattle.snapshots.proofs.save.Goals as goal

pub returns-then-row-ne-NUMBERS : goal.returns-then-row-ne-NUMBERS
returns-then-row-ne-NUMBERS c = save_odd _ _ c.if-row-ne-NUMBERS.true

pub returns-then-room-lt-BYTES : goal.returns-then-room-lt-BYTES
returns-then-room-lt-BYTES c = save_short _ _ c.if-row-ne-NUMBERS.false c.if-room-lt-BYTES.true

pub slice_bounds-sum-end-2 : goal.slice_bounds-sum-end-2
slice_bounds-sum-end-2 c =
    let laid = c in
    let long = laid in
    let args = long.args in
    let same = ap length laid.lay.ensures ∙ length-sets args.room.now 0 (number_bytes args.row.now) in
    sym (length-take-le 6048 laid.lay.new.room (omega (arith, same, long.if-room-lt-BYTES.false)))

pub returns : goal.returns
returns c =
    let put = c in
    let summing = put in
    let laid = summing in
    let long = laid in
    let args = long.args in
    let is = long.if-row-ne-NUMBERS.false in
    rw (
      put.put.ensures,
      summing.sum-total.ensures,
      laid.lay.ensures,
      summed args.row.now args.room.now is long.if-room-lt-BYTES.false,
      saved args.row.now args.room.now is long.if-room-lt-BYTES.false,
    )
    (save_done _ _ is long.if-room-lt-BYTES.false)
