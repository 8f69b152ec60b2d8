-- What a lane shows is the cell of its tick, which is by whether it is active. Rests on the definitions.
use mathlib.Core.Path.{◌≡◌, refl, ap}
use mathlib.Core.Bool.{true, false}
use Prim.Native.Nat.{ℕ}
use lib.Dec.{ltb}
use Rattle.rules.specs.Refusals.{pick}
use Rattle.story.specs.declared.Title.{Title}
use Rattle.story.specs.Kept.{scheme_in, ruling, sending_tick, shows}
use Rattle.owed.specs.Shown.{shown_tick}

module _ (t : Title) (l n : ℕ) where
  pub tick_active : ltb l (ruling t) ≡ true → shown_tick t l n ≡ n
  unfolding shown_tick
  tick_active e = ap (λ b. pick b n (sending_tick t l n)) e

  pub tick_sending : ltb l (ruling t) ≡ false → shown_tick t l n ≡ sending_tick t l n
  unfolding shown_tick
  tick_sending e = ap (λ b. pick b n (sending_tick t l n)) e

  pub shown_cell : shows t l n ≡ (scheme_in t).on_lane l (shown_tick t l n)
  unfolding shows shown_tick
  shown_cell = refl
