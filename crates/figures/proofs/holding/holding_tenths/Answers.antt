-- `holding_tenths` meets its contract: the longest holding in ticks, and the tick in ms.
use native.Mathlib.Omega.{arith}
use native.Mathlib.Nat.{mul-le-mul}
use Rattle.figures.proofs.holding.holding_tenths.Goals as goal

pub overflow_mul-result : goal.overflow_mul-result
overflow_mul-result c =
    record { fits = omega (arith, mul-le-mul c.longest_held.ensures.high c.slot_ms.ensures.high) }

pub overflow_add-result : goal.overflow_add-result
overflow_add-result c =
    record { fits = omega (arith, mul-le-mul c.longest_held.ensures.high c.slot_ms.ensures.high) }

pub returns : goal.returns
returns c = rw (c.longest_held.ensures.is, c.slot_ms.ensures.is)
