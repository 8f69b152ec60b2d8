-- `slot_ms` meets its contract: a slot is short enough for the product to fit.
use native.Mathlib.Omega.{arith}
use Rattle.grid.proofs.Ticks.{slot_ms_lem}
use Rattle.moments.proofs.starts.slot_ms.Goals as goal

pub overflow_mul-result : goal.overflow_mul-result
overflow_mul-result c =
    let slot = c.slot.ensures in
    let tick = c.tick.ensures in
    let ms = slot_ms_lem _ _ _ slot.low slot.high tick.low tick.high c.requires.filmed.sized.high in
    record { fits = omega (arith, ms.1) }

pub returns : goal.returns
returns c =
    let slot = c.slot.ensures in
    let tick = c.tick.ensures in
    let ms = slot_ms_lem _ _ _ slot.low slot.high tick.low tick.high c.requires.filmed.sized.high in
    record { is = simp (slot.is, tick.is); low = ms.0; high = ms.1 }
