-- `plans::padded::fill` meets its contract. Rests on the law that the channels' runs and the last slot's cells are the plan.
use mathlib.Core.Path.{◌≡◌, ap, ◌∙◌}
use mathlib.Core.Bool.{true}
use mathlib.Core.List.{List}
use Prim.Native.Nat.{ℕ, ◌+◌, ◌-◌, ◌^◌, ◌≤◌}
use native.Mathlib.Omega.{arith}
use lib.Pow.{pow_mono}
use lib.ListN.{length}
use Rattle.grid.specs.Ticks.{slot}
use Rattle.grid.specs.Bounds.{Counted}
use Rattle.scheme.specs.Scheme.{padded, starts}
use Rattle.plans.specs.Padded.{plan_at, never}
use Rattle.plans.specs.Row.{written}
use Rattle.plans.specs.inner.Rows.{written_from, runs_at}
use Rattle.plans.proofs.rows.Written.{from_length}
use Rattle.plans.proofs.padded.Channels.{runs_plan}
use Rattle.plans.proofs.padded.fill.Goals as goal

-- a slot is no longer than the title
width : (K k w : ℕ) → w ≡ slot K k → w ≤ 2 ^ (K - k)
unfolding slot
width K k w e = omega (arith, e)

within : (K k w : ℕ) → w ≡ slot K k → w ≤ 2 ^ K
within K k w e =
    let m : 2 ^ (K - k) ≤ 2 ^ K = pow_mono {i = K - k} {j = K} (omega arith) in
    omega (arith, width K k w e)

-- the plan, by the numbers that the code computes
filled : (A K k a : ℕ) → Counted A K k → starts (padded A K) k a ≡ true → (w p q r : ℕ) →
    w ≡ slot K k → p ≡ 2 ^ K → q ≡ 2 ^ (K - A) → r ≡ 2 ^ K →
    (row x y : List ℕ) → x ≡ written_from (runs_at w (a + w + (p - q))) row (2 ^ (K - k) - w) (2 ^ K - 2 ^ (K - k)) →
    y ≡ written_from (λ _. never) x (r - w) w → y ≡ written (plan_at A K k a) row (2 ^ K)
filled A K k a count start w p q r e f g h row x y i j =
    runs_plan A K k a count start row x y (rw (e, f, g) at i) (rw (e, h) at j)

pub overflow_sub-phase : goal.overflow_sub-phase
overflow_sub-phase c =
    let a = c.args in
    let m : 2 ^ (a.cap - a.floor) ≤ 2 ^ a.cap = pow_mono {i = a.cap - a.floor} {j = a.cap} (omega arith) in
    omega (arith, c.pow2-2.ensures.is, c.pow2.ensures.is)

pub runs-requires : goal.runs-requires
runs-requires c =
    let s = c.before.before.before.before.before in
    let w = c.slot-width in record { low_le_high = (omega arith, s.requires.counted.high); base_bound = (width s.args.cap s.args.count w.result w.ensures.is, omega (arith, s.requires.arrival_le_asked_max.1)) }

pub overflow_sub-pow2 : goal.overflow_sub-pow2
overflow_sub-pow2 c =
    let w = c.before.before.before.before.before.before.before in
    let a = w.args in
    omega (arith, c.pow2-3.ensures.is, within a.cap a.count w.slot-width.result w.slot-width.ensures.is)

pub level-requires : goal.level-requires
level-requires c =
    let w = c.before.before.before.before.before.before.before.before in
    let s = w.before.before in
    let a = s.args in
    let n = ap length c.runs.ensures ∙ from_length _ _ _ _ in
    omega (arith, n, c.pow2-3.ensures.is, within a.cap a.count w.slot-width.result w.slot-width.ensures.is, s.requires.arrival_le_asked_max.1)

pub returns : goal.returns
returns c =
    let l = c.before.before in
    let three = l.before.before in
    let t = three.before.before.before in
    let two = t.before.before in
    let w = two.before.before in
    let s = w.before.before in
    let a = s.args in
    filled a.floor a.cap a.count a.arrival s.requires.counted s.requires.arrival_value w.slot-width.result two.pow2.result
    two.pow2-2.result three.pow2-3.result
    w.slot-width.ensures.is two.pow2.ensures.is two.pow2-2.ensures.is three.pow2-3.ensures.is a.row.now _ _
    t.runs.ensures l.level.ensures
