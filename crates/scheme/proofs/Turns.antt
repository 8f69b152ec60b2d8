-- When a box takes each cell of a skip-forward title: once, after a wait with a closed form, no later than its turn; and the cell
-- after the one that plays has been taken or is on air. For K lanes, whose cells are the numbers below 2^(K-1).
-- Rests on the laws of the steady lanes, on which each cell comes once in a period.
use mathlib.Core.Path.{◌≡◌, refl}
use mathlib.Core.Bool.{true}
use mathlib.Core.Logic.{◌⊎◌, inl, inr, ⊎_elim}
use Prim.Native.Nat.{ℕ, zero, suc, ◌+◌, ◌-◌, ◌%◌, ◌^◌, ◌≤◌, ◌<◌}
use native.Mathlib.Omega.{arith}
use native.Mathlib.Nat.{mod-lt}
use lib.Pow.{pow_pos}
use Rattle.rules.proofs.Search.{below_suc}
use Rattle.grid.proofs.Numbers.{until}
use Rattle.scheme.specs.Scheme.{steady, takes, period, steady_cell, steady_kind, tick_for, film_in}
use Rattle.scheme.proofs.Takes.{taken_in_lem, taken_out}
use Rattle.scheme.proofs.Clock.{film_within}
use Rattle.scheme.proofs.SteadyLanes.{carrier, lane_of, first_lane_of, comes_at, comes_only}

-- ---- what a box takes

module _ (K a : ℕ) where
  -- the first cell comes at once, and never again
  pub first_taken : 0 < K → takes steady K a 0 a ≡ true
  unfolding steady_cell
  first_taken pos =
      taken_in_lem steady K a 0 a 0 (record { channel = pos; from = omega arith; before = omega arith; carries = refl })

  pub first_only : (t : ℕ) → takes steady K a 0 t ≡ true → t ≡ a
  first_only t h =
      let r = taken_out steady K a 0 t h in
      let e : r.0 ≡ 0 = first_lane_of r.0 t r.1.carries in
      let b : t < a + period 0 = rw e at r.1.before in
      omega (arith, r.1.from)

  module _ (i c : ℕ) (low : 2 ^ i ≤ c) (high : c < 2 ^ suc i) where
    pub later_taken : suc i < K → takes steady K a c (a + until (2 ^ i) a c) ≡ true
    later_taken count =
        let b : until (2 ^ i) a c < 2 ^ i = mod-lt (c + (2 ^ i - a % 2 ^ i)) (pow_pos i) in
        taken_in_lem steady K a c (a + until (2 ^ i) a c) (suc i)
        (record { channel = count; from = omega arith; before = omega arith; carries = comes_at i a c low high })

    pub later_only : (t : ℕ) → takes steady K a c t ≡ true → t ≡ a + until (2 ^ i) a c
    later_only t h =
        let r = taken_out steady K a c t h in
        let e : r.0 ≡ suc i = lane_of i c r.0 t low high r.1.carries in
        let b : t < a + 2 ^ i = rw e at r.1.before in
        let u : a + (t - a) ≡ t = omega (arith, r.1.from) in
        let s : steady_cell (suc i) (a + (t - a)) ≡ c = rw (u, ← e) r.1.carries in
        omega (arith, comes_only i a c (t - a) (omega (arith, r.1.from)) s)

-- ---- ahead of what plays

module _ (K a c : ℕ) (block : suc c < 2 ^ (K - 1)) where
  -- the next cell comes while the one before it plays, or earlier
  pub ahead : (t : ℕ) × (t ≤ a + c) × (takes steady K a (suc c) t ≡ true)
  ahead =
      let r = carrier K (suc c) (omega arith) block in
      let i : ℕ = r.0 in
      let b : until (2 ^ i) a (suc c) < 2 ^ i = mod-lt (suc c + (2 ^ i - a % 2 ^ i)) (pow_pos i) in
      (a + until (2 ^ i) a (suc c), omega (arith, r.2), later_taken K a i (suc c) r.2 r.3 r.1)

  -- so it has been taken, or a lane carries it now
  pub taken_or_on_air :
      ((t : ℕ) × (t < a + c) × (takes steady K a (suc c) t ≡ true)) ⊎ ((l : ℕ) × (l < K) × (steady_cell l (a + c) ≡ suc c))
  taken_or_on_air =
      let r = ahead in
      let s = taken_out steady K a (suc c) r.0 r.2 in
      ⊎_elim (λ b. inl (r.0, b, r.2)) (λ e. inr (s.0, s.1.channel, rw (← e) s.1.carries))
      (below_suc r.0 (a + c) (omega (arith, r.1)))

-- the same of a film of D ms: the next cell, if it holds film
pub film_ahead : (D K a c : ℕ) → film_in D (tick_for steady_kind D K K) (suc c) ≡ true →
    ((t : ℕ) × (t < a + c) × (takes steady K a (suc c) t ≡ true)) ⊎ ((l : ℕ) × (l < K) × (steady_cell l (a + c) ≡ suc c))
unfolding tick_for
film_ahead D K a c film = taken_or_on_air K a c (film_within D (2 ^ (K - 1)) (suc c) (pow_pos (K - 1)) film)

-- ---- in time

-- every cell comes no later than its turn
pub comes : (K a c : ℕ) → 0 < K → c < 2 ^ (K - 1) → (t : ℕ) × (t ≤ a + c) × (takes steady K a c t ≡ true)
comes K a zero pos b = (a, omega arith, first_taken K a pos)
comes K a (suc c) pos b = let r = ahead K a c b in (r.0, omega (arith, r.1), r.2)
