-- `next_start` meets its contract: what is left of the slot that has begun leads to the next start.
use native.Mathlib.Omega.{arith}
use native.Mathlib.Nat.{mod-lt}
use Rattle.moments.proofs.Permitted.{starts_now, starts_next}
use Rattle.moments.proofs.starts.next_start.Goals as goal

pub returns-then-over-eq0 : goal.returns-then-over-eq0
returns-then-over-eq0 c =
    let start = c in
    let a = start.args in
    starts_now a.t a.count start.requires.filmed a.from _ _ c.slot_ms-slot.ensures.is c.since.ensures
    c.if-over-eq0.true

pub overflow_sub-result : goal.overflow_sub-result
overflow_sub-result c =
    let slot = c.slot_ms-slot in
    omega (arith, mod-lt c.since.result {m = slot.result} slot.ensures.low)

pub returns : goal.returns
returns c =
    let start = c in
    let a = start.args in
    let slot = c.slot_ms-slot.ensures in
    starts_next a.t a.count start.requires.filmed a.from _ _ slot.is c.since.ensures c.if-over-eq0.false slot.high
