-- `release_of` meets its contract: with no more ticks than the clock has ms the product fits.
use Prim.Native.Nat.{ℕ, suc, ◌*◌, ◌≤◌}
use native.Mathlib.Omega.{arith}
use native.Mathlib.Nat.{mul-le-mul}
use Rattle.rules.specs.Limits.{event_time_max, length_max, lane_places}
use Rattle.measures.proofs.Within.{in_row}
use Rattle.moments.specs.Searched.{release_moment}
use Rattle.moments.proofs.releases.release_of.Goals as goal

-- the longest list of the clock's, in ms
list_ms : (n p : ℕ) → n ≤ suc event_time_max → p ≤ length_max → n * p ≤ suc event_time_max * length_max
list_ms n p a b = mul-le-mul {n₁ = n} {m₁ = p} {n₂ = suc event_time_max} {m₂ = length_max} a b

pub overflow_add-from : goal.overflow_add-from
overflow_add-from c =
    let start = c in
    let t = start.args.t in
    let lane = start.args.lane in
    let below = start.requires.lane_lt_count_max.0 in
    let from = in_row t.dropped lane_places lane start.requires.timed.dropped below in
    record { fits = omega (arith, from, in_row t.owed lane_places lane start.requires.timed.owed below) }

pub overflow_mul-result : goal.overflow_mul-result
overflow_mul-result c =
    let start = c in
    let short = start.requires.lane_lt_count_max.1.1 in
    record { fits = omega (arith, list_ms c.min-ticks.result start.args.tick (omega arith) short) }

pub overflow_add-result : goal.overflow_add-result
overflow_add-result c =
    let start = c in
    let short = start.requires.lane_lt_count_max.1.1 in
    record { fits = omega (arith, start.requires.timed.opened, list_ms c.min-ticks.result start.args.tick (omega arith) short) }

pub returns : goal.returns
unfolding release_moment
returns c = simp (c.min-ticks.ensures, c.requires.lane_lt_count_max.1.0)
