-- Laws of the plan of a skip-forward title's box with k lanes: each block is taken at the number that the plan gives, no later than
-- its turn, at no other tick, and no lane has it sooner; and the number's closed form.
-- Rest on when a box takes each cell, and on the laws of the plan's number.
use mathlib.Core.Path.{◌≡◌, sym, ◌∙◌}
use mathlib.Core.Bool.{true}
use Prim.Native.Nat.{ℕ, zero, suc, ◌+◌, ◌-◌, ◌%◌, ◌^◌, ◌≤◌, ◌<◌}
use native.Mathlib.Omega.{arith}
use native.Mathlib.Nat.{add-zero, mod-lt}
use lib.Pow.{pow_pos, pow_mono}
use Rattle.grid.proofs.Numbers.{until}
use Rattle.scheme.specs.Scheme.{steady, takes, period, steady_cell}
use Rattle.scheme.proofs.Takes.{taken_in_lem, taken_out, window_end, taken_first, taken_at}
use Rattle.scheme.proofs.SteadyLanes.{carrier, one_lane, period_fits}
use Rattle.scheme.proofs.Turns.{first_taken, first_only, later_taken, later_only, comes}
use Rattle.plans.specs.Forward.{blocks, skip_at}

module _ (k a : ℕ) (count : 0 < k) where
  -- ---- the closed form

  pub first_after : skip_at k a 0 ≡ 0
  first_after =
      taken_at steady k k a 0 0 (pow_pos (k - 1)) (rw (add-zero a) (first_taken k a count))
      (λ t h. rw (add-zero a) (first_only k a t h))

  pub later_after : (i c : ℕ) → 2 ^ i ≤ c → c < 2 ^ suc i → suc i < k → skip_at k a c ≡ until (2 ^ i) a c
  later_after i c low high lane =
      let b : until (2 ^ i) a c < 2 ^ i = mod-lt (c + (2 ^ i - a % 2 ^ i)) (pow_pos i) in
      let m : 2 ^ i ≤ 2 ^ (k - 1) = pow_mono (omega arith) in
      taken_at steady k k a c (until (2 ^ i) a c) (omega arith) (later_taken k a i c low high lane) (later_only k a i c low high)

  -- ---- what it says

  -- a tick at which a cell is taken is early enough for the plan
  within : (c t : ℕ) → takes steady k a c t ≡ true → t < a + blocks k
  within c t h = window_end steady k k a c t (period_fits k) h

  -- each block is taken at its number, which is no later than its turn
  pub in_time : (c : ℕ) → c < blocks k → (takes steady k a c (a + skip_at k a c) ≡ true) × (skip_at k a c ≤ c)
  in_time c l =
      let r = comes k a c count l in
      let s = taken_first steady k k a c r.0 (within c r.0 r.2) r.2 in
      (s.0, omega (arith, s.1, r.1))

  -- and at no other tick
  pub only : (c t : ℕ) → c < blocks k → takes steady k a c t ≡ true → t ≡ a + skip_at k a c
  only zero t l h = rw (first_after, add-zero a) (first_only k a t h)
  only (suc c) t l h =
      let r = carrier k (suc c) (omega arith) l in
      rw (later_after r.0 (suc c) r.2 r.3 r.1) (later_only k a r.0 (suc c) r.2 r.3 t h)

  -- the tick at which it is taken is the first from the start at which any of the lanes has it
  pub none_sooner : (c d o : ℕ) → c < blocks k → d < k → o < skip_at k a c → steady_cell d (a + o) ≡ c → ⊥
  none_sooner c d o l lane b e =
      let r = taken_out steady k a c (a + skip_at k a c) (in_time c l).0 in
      let same : d ≡ r.0 = one_lane d r.0 (a + o) (a + skip_at k a c) (e ∙ sym r.1.carries) in
      let span : a + o < a + period d = rw same (omega (arith, r.1.before)) in
      let h : takes steady k a c (a + o) ≡ true =
      taken_in_lem steady k a c (a + o) d (record { channel = lane; from = omega arith; before = span; carries = e }) in
      omega (arith, only c (a + o) l h)
