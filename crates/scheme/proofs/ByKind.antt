-- Which scheme and tick a kind has, and the numbers of a steady lane as the code computes them. Rests on both definitions.
use mathlib.Core.Path.{◌≡◌, refl}
use Prim.Native.Nat.{ℕ, zero, suc, ◌+◌, ◌-◌, ◌/◌, ◌%◌, ◌^◌, ◌≤◌, ◌<◌}
use native.Mathlib.Omega.{arith}
use lib.Pow.{pow_pos, pow_mono}
use borrow.Author.Tests.{eq-eqb, ne_eqb}
use Rattle.grid.specs.Bounds.{Exactly}
use Rattle.grid.specs.Ticks.{rounded_up, tick_of}
use Rattle.grid.proofs.Ticks.{rounded_low, rounded_high}
use Rattle.scheme.specs.Scheme.{steady, padded, steady_kind, scheme_of, tick_for, period, steady_cell}
use Rattle.scheme.proofs.SteadyLanes.{cell_range}

module _ (kind A K : ℕ) where
  pub steady_scheme : kind ≡ steady_kind → scheme_of kind A K ≡ steady
  unfolding scheme_of
  steady_scheme e = rw (eq-eqb kind steady_kind e) refl

  pub padded_scheme : (kind ≡ steady_kind → ⊥) → scheme_of kind A K ≡ padded A K
  unfolding scheme_of
  padded_scheme n = rw (ne_eqb kind steady_kind n) refl

  pub steady_tick : (D : ℕ) → kind ≡ steady_kind → tick_for kind D A K ≡ rounded_up D (2 ^ (K - 1))
  unfolding tick_for
  steady_tick D e = rw (eq-eqb kind steady_kind e) refl

  pub padded_tick : (D : ℕ) → (kind ≡ steady_kind → ⊥) → tick_for kind D A K ≡ tick_of D A K
  unfolding tick_for
  padded_tick D n = rw (ne_eqb kind steady_kind n) refl

  -- the tick of a skip-forward title, computed from the number of its blocks
  pub steady_tick_exactly : (D b : ℕ) → kind ≡ steady_kind → 0 < D → b ≡ 2 ^ (K - 1) →
      Exactly (tick_for kind D A K) 1 D ((D + (b - 1)) / b)
  unfolding rounded_up
  steady_tick_exactly D b e film is =
      rw (steady_tick D e, is)
      (record { is = refl; low = rounded_low D (2 ^ (K - 1)) film (pow_pos (K - 1)); high = rounded_high D (2 ^ (K - 1)) film (pow_pos (K - 1)) })

-- the numbers of a lane above the first
pub period_above : (l : ℕ) → (l ≡ 0 → ⊥) → period l ≡ 2 ^ (l - 1)
period_above zero n = absurd (n refl)
period_above (suc i) n = let f : suc i - 1 ≡ i = omega arith in rw f refl

pub steady_above : (l t : ℕ) → (l ≡ 0 → ⊥) → steady_cell l t ≡ 2 ^ (l - 1) + t % 2 ^ (l - 1)
unfolding steady_cell
steady_above zero t n = absurd (n refl)
steady_above (suc i) t n = let f : suc i - 1 ≡ i = omega arith in rw f refl

-- every cell of a lane is one of the title's
pub steady_within : (K l t : ℕ) → l < K → steady_cell l t < 2 ^ K
unfolding steady_cell
steady_within K zero t b = pow_pos K
steady_within K (suc i) t b = let m : 2 ^ suc i ≤ 2 ^ K = pow_mono (omega arith) in omega (arith, cell_range i t)
