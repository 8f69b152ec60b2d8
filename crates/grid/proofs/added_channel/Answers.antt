-- `grid::added_channel` meets its contract: the low zeros of the shifted slot number plus one. Rests on the laws of low
-- zeros.
use native.Mathlib.Omega.{arith}
use native.Mathlib.Nat.{div-le_self}
use Rattle.grid.proofs.Zeros.{parts_added}
use Rattle.grid.proofs.added_channel.Goals as goal

pub overflow_add-j : goal.overflow_add-j
overflow_add-j c =
    record { fits = omega (arith, div-le_self c.args.tick c.slot.result, c.requires.floor_le_lane.1) }

pub returns : goal.returns
returns c =
    let s = c.before.before.before.before in
    let a = s.args in
    let width = c.slot in
    let shift = c.shift in
    parts_added a.floor a.cap a.lane a.tick width.result shift.result c.abs_diff.result
    c.low_zeros.result s.requires.floor_le_lane.0 (omega (arith, s.requires.counted.fit)) width.ensures.is shift.ensures.is
    c.abs_diff.ensures c.low_zeros.ensures
