-- `grid::place` meets its contract: it is the floor remainder of the slot's difference from the shift.
-- Rests on the laws of signed numbers.
use native.Mathlib.Omega.{arith}
use Rattle.grid.proofs.Signed.{rest_parts}
use Rattle.grid.proofs.place.Goals as goal

pub returns : goal.returns
returns c =
    let s = c.before.before.before.before in
    let a = s.args in
    let shift = c.shift in
    rest_parts a.floor a.count a.channel a.j shift.result c.pow2.result
    c.floor_rem.result
    c.slot_difference.result (omega (arith, s.requires.channel_le_count.1)) (omega (arith, shift.ensures.high))
    shift.ensures.is c.slot_difference.ensures c.pow2.ensures.is
    c.floor_rem.ensures
