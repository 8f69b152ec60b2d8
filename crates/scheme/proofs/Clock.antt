-- The tick of a title of either kind lasts some ms, and no longer than the film; and a cell with film is one of those by which it
-- was rounded up. Rests on the rounding up.
use mathlib.Core.Path.{◌≡◌}
use mathlib.Core.Bool.{true}
use mathlib.Core.Logic.{⊎_elim}
use Prim.Native.Nat.{ℕ, ◌-◌, ◌*◌, ◌^◌, ◌≤◌, ◌<◌}
use native.Mathlib.Omega.{arith}
use native.Mathlib.Nat.{lt_of_mul-lt-mul_right}
use lib.Dec.{eqb}
use lib.Pow.{pow_pos}
use borrow.Author.Tests.{ltb-true}
use Rattle.rules.proofs.Tests.{decide}
use Rattle.grid.specs.Ticks.{rounded_up, tick_of}
use Rattle.grid.proofs.Ticks.{rounded_enough, rounded_low, rounded_high, held_pos}
use Rattle.scheme.specs.Scheme.{steady_kind, tick_for, film_in}

-- a film cut into n parts has it in these alone
pub film_within : (D n c : ℕ) → 0 < n → film_in D (rounded_up D n) c ≡ true → c < n
unfolding film_in
film_within D n c pos h =
    let e : D ≤ rounded_up D n * n = rounded_enough D n pos in
    let g : c * rounded_up D n < D = ltb-true (c * rounded_up D n) D h in
    lt_of_mul-lt-mul_right (rounded_up D n) (omega arith)

module _ (kind D A K : ℕ) (film : 0 < D) (floor : 0 < A) (high : A ≤ K) where
  pub tick_pos : 0 < tick_for kind D A K
  unfolding tick_for tick_of
  tick_pos =
      ⊎_elim (λ x. rw x (rounded_low D (2 ^ (K - 1)) film (pow_pos (K - 1))))
      (λ x. rw x (rounded_low D (2 ^ K - 2 ^ (K - A)) film (omega (arith, held_pos A K floor high))))
      (decide (eqb kind steady_kind))

  pub tick_high : tick_for kind D A K ≤ D
  unfolding tick_for tick_of
  tick_high =
      ⊎_elim (λ x. rw x (rounded_high D (2 ^ (K - 1)) film (pow_pos (K - 1))))
      (λ x. rw x (rounded_high D (2 ^ K - 2 ^ (K - A)) film (omega (arith, held_pos A K floor high))))
      (decide (eqb kind steady_kind))
