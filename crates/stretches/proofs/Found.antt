-- An owed tick that is found lies within reach, and so is small. Rests on the laws of searches.
use mathlib.Core.Path.{◌≡◌}
use Prim.Native.Nat.{ℕ, ◌+◌, ◌-◌, ◌^◌, ◌≤◌}
use native.Mathlib.Omega.{arith}
use lib.Pow.{pow_mono}
use Rattle.rules.specs.Limits.{count_max}
use Rattle.rules.specs.Search.{first}
use Rattle.rules.proofs.Search.{first_le, how_many_le}
use Rattle.grid.specs.Bounds.{Exactly}
use Rattle.story.specs.declared.Title.{Title}
use Rattle.story.specs.Life.{reach}
use Rattle.story.specs.Kept.{kept_owed, kept_within, kept_nth}

module _ (t : Title) (l T : ℕ) (high : t.film.cap ≤ count_max) where
  room : reach t.film.cap ≤ 2 ^ count_max
  unfolding reach
  room = pow_mono {i = t.film.cap - 1} {j = count_max} (omega arith)

  pub found_exactly : (n r : ℕ) → r ≡ first (kept_nth t l T n) (reach t.film.cap) →
      Exactly (first (kept_nth t l T n) (reach t.film.cap)) 0 (2 ^ count_max) r
  found_exactly n r is = record { is = is; low = omega arith; high = omega (arith, is, room, first_le (kept_nth t l T n) (reach t.film.cap)) }

  pub owed_few : kept_within t l T (reach t.film.cap) ≤ 2 ^ count_max
  unfolding kept_within
  owed_few = omega (arith, room, how_many_le (λ o. kept_owed t l (T + o)) (reach t.film.cap))
