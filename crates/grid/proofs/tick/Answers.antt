-- `grid::tick` meets its contract: the cells that hold film are more than none, and the division rounds up.
-- Rests on the laws of ticks.
use mathlib.Core.Path.{◌∙◌}
use Prim.Native.Nat.{◌-◌}
use native.Mathlib.Omega.{arith}
use Rattle.grid.proofs.Ticks.{held_pos, tick_exactly, ceil_rounded}
use Rattle.grid.proofs.tick.Goals as goal

pub overflow_sub-held : goal.overflow_sub-held
overflow_sub-held c = omega (arith, c.pow2-2.ensures.is, c.pow2.ensures.is, held_pos c.args.floor c.args.cap c.requires.floor_cap.low c.requires.floor_cap.fit)

pub div_ceil-requires : goal.div_ceil-requires
div_ceil-requires c = omega (arith, c.pow2-2.ensures.is, c.pow2.ensures.is, held_pos c.args.floor c.args.cap c.requires.floor_cap.low c.requires.floor_cap.fit)

pub returns : goal.returns
returns c =
    let a = c.args in
    let m = c.pow2.result - c.pow2-2.result in
    rw (c.div_ceil.ensures ∙ ceil_rounded a.length m (omega (arith, c.pow2-2.ensures.is, c.pow2.ensures.is, held_pos a.floor a.cap c.requires.floor_cap.low c.requires.floor_cap.fit)))
    (tick_exactly a.length a.floor a.cap c.pow2.result c.pow2-2.result c.requires.length.low
    c.requires.floor_cap.low c.requires.floor_cap.fit c.pow2.ensures.is c.pow2-2.ensures.is)
