-- `admissions::stretch_of` meets its contract: a slot's ticks times the tick's ms.
use native.Mathlib.Omega.{arith}
use Rattle.grid.proofs.Ticks.{slot_ms_lem}
use Rattle.admissions.proofs.Slots.{stretch_spaced}
use Rattle.admissions.proofs.stretch_of.Goals as goal

pub overflow_mul-slot : goal.overflow_mul-slot
overflow_mul-slot c =
    let slot = c.slot.ensures in
    let tick = c.tick.ensures in
    record { fits = omega (arith, (slot_ms_lem _ _ _ slot.low slot.high tick.low tick.high c.requires.sized.high).1) }

pub returns : goal.returns
returns c = stretch_spaced _ _ _ c.requires c.slot.ensures c.tick.ensures
