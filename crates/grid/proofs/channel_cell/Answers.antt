-- `grid::channel_cell` meets its contract: its parts make up the cell, and the cell's own bound keeps every step small.
-- Rests on the laws of the channels.
use Prim.Native.Nat.{◌^◌, ◌≤◌}
use native.Mathlib.Omega.{arith}
use native.Mathlib.Nat.{div-le_self}
use lib.Pow.{pow_mono}
use Rattle.rules.specs.Limits.{count_max}
use Rattle.grid.proofs.Channels.{cell_parts}
use Rattle.grid.proofs.channel_cell.Goals as goal

pub place-requires : goal.place-requires
place-requires c =
    let p = c.requires in
    record { floor_le_count = (p.counted.floor, omega (arith, p.counted.fit, p.counted.high)); channel_le_count = (omega (arith, p.channel_lt_count.0), omega (arith, div-le_self c.args.tick c.slot-width.result, p.channel_lt_count.1)) }

pub returns : goal.returns
returns c =
    let a = c.args in
    let p = c.requires in
    cell_parts a.floor a.cap a.count a.channel a.tick c.pow2.result c.place.result c.slot-width.result
    p.counted.fit p.channel_lt_count.0 c.pow2.ensures.is c.place.ensures.is c.slot-width.ensures.is

pub overflow_mul-result : goal.overflow_mul-result
overflow_mul-result c =
    let room : 2 ^ c.args.cap ≤ 2 ^ count_max = pow_mono c.requires.counted.high in
    record { fits = omega (arith, (returns c).within) }

pub overflow_add-result : goal.overflow_add-result
overflow_add-result c =
    let room : 2 ^ c.args.cap ≤ 2 ^ count_max = pow_mono c.requires.counted.high in
    record { fits = omega (arith, (returns c).within) }
