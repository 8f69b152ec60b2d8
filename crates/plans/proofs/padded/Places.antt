-- The numbers that the plan gives: for every cell but the last w the tick at which it is taken, minus the start, no more than its
-- turn, and its closed form; for the last w that they never are. Rests on when a box takes each cell on the padded grid.
use mathlib.Core.Path.{◌≡◌, refl, sym, ◌∙◌}
use mathlib.Core.Bool.{true}
use Prim.Native.Nat.{ℕ, ◌+◌, ◌-◌, ◌^◌, ◌≤◌, ◌<◌}
use native.Mathlib.Omega.{arith}
use lib.Dec.{ltb}
use borrow.Author.Tests.{ltb-true, lt-ltb}
use Rattle.rules.proofs.Tests.{fails}
use Rattle.grid.specs.Ticks.{slot}
use Rattle.grid.specs.Bounds.{Carrier}
use Rattle.scheme.specs.Scheme.{padded, starts, takes, taken_after}
use Rattle.scheme.proofs.Takes.{taken_in_lem, taken_out, window_end, taken_there, taken_at}
use Rattle.scheme.proofs.Padded.{spans_fit}
use Rattle.scheme.proofs.Waits.{due, wait_taken, taken_cell, once, in_time}
use Rattle.plans.specs.Padded.{plan_at, never}

module _ (A K k a c : ℕ) (high : k ≤ K) (start : starts (padded A K) k a ≡ true) where
  abbrev after : ℕ
  after = taken_after (padded A K) K k a c

  -- the plan gives the tick at which the cell is taken, and no other
  pub plan_only : (t : ℕ) → takes (padded A K) k a c t ≡ true → plan_at A K k a c ≡ t - a
  unfolding plan_at
  plan_only t h =
      let r = taken_out (padded A K) k a c t h in
      let b : t < a + 2 ^ (K - 1) = window_end (padded A K) K k a c t (λ d. spans_fit K k d high) h in
      let e : a + (t - a) ≡ t = omega (arith, r.1.from) in
      let l : t - a < 2 ^ (K - 1) = omega (arith, r.1.from) in
      let o : after ≡ t - a =
      taken_at (padded A K) K k a c (t - a) l (rw e h)
      (λ u g. let s = taken_out (padded A K) k a c u g in (once A K k a c u s.0 t r.0 start s.1 r.1).0 ∙ sym e) in
      rw (o, lt-ltb (t - a) (2 ^ (K - 1)) l) refl

  -- its closed form
  pub plan_due : (d : ℕ) → d < k → Carrier K k c d → plan_at A K k a c ≡ due A K k a c d
  plan_due d l h =
      plan_only (a + due A K k a c d)
      (taken_in_lem (padded A K) k a c (a + due A K k a c d) d (wait_taken A K k a c d start l h))
      ∙ omega arith

  -- every cell but the last w is in the plan, at the number the plan gives and no later than its turn
  pub plan_in_lem : c < 2 ^ K - slot K k → (takes (padded A K) k a c (a + plan_at A K k a c) ≡ true) × (plan_at A K k a c ≤ c)
  plan_in_lem h =
      let r = in_time A K k a c high start h in
      let s = taken_out (padded A K) k a c r.0 r.2 in
      let e : plan_at A K k a c ≡ r.0 - a = plan_only r.0 r.2 in
      let f : a + plan_at A K k a c ≡ r.0 = omega (arith, s.1.from) in
      (rw f r.2, omega (arith, r.1))

  -- and of the last w none is
  pub plan_never : 2 ^ K - slot K k ≤ c → plan_at A K k a c ≡ never
  unfolding plan_at
  plan_never h =
      rw (fails (ltb after (2 ^ (K - 1)))
      (λ t. let s = taken_out (padded A K) k a c (a + after) (taken_there (padded A K) K k a c (ltb-true after (2 ^ (K - 1)) t)) in
      omega (arith, taken_cell A K k a c (a + after) s.0 high start s.1))) refl
