-- `settled_at` meets its contract: a slot is short enough for the sum to fit.
use native.Mathlib.Omega.{arith}
use Rattle.grid.proofs.Ticks.{slot_ms_lem}
use Rattle.story.specs.Kept.{settled_at}
use Rattle.measures.proofs.ticks.settled_at.Goals as goal

pub overflow_mul-slot : goal.overflow_mul-slot
overflow_mul-slot c =
    let slot = c.slot.ensures in
    let tick = c.tick.ensures in
    record { fits = omega (arith, (slot_ms_lem _ _ _ slot.low slot.high tick.low tick.high c.requires.filmed.sized.high).1) }

pub overflow_add-result : goal.overflow_add-result
overflow_add-result c =
    let slot = c.slot.ensures in
    let tick = c.tick.ensures in
    let start = c.before.before.before in
    record { fits = omega (arith, start.requires.tuned_le_asked_max, (slot_ms_lem _ _ _ slot.low slot.high tick.low tick.high start.requires.filmed.sized.high).1) }

pub returns : goal.returns
unfolding settled_at
returns c = simp (c.slot.ensures.is, c.tick.ensures.is)
