-- Laws of the search for a colon.
use Prim.Native.Nat.{ℕ}
use mathlib.Core.Path.{◌≡◌, refl}
use mathlib.Core.Bool.{Bool, true, false}
use mathlib.Core.List.{List, [], ◌∷◌, ◌++◌}
use lib.Dec.{eqb}
use Rattle.std.specs.Prelude.{◌||◌}
use Rattle.std.specs.List.{list_any}
use Rattle.rules.specs.Limits.{either}
use Rattle.rules.proofs.Tests.{either_r}
use Rattle.clocks.specs.Clocks.{colon, has_colon}

-- a byte among all of them is the colon
pub any_colon : (w : List ℕ) → list_any (λ (b : ℕ). eqb b colon) w ≡ has_colon w
unfolding has_colon
any_colon [] = refl
any_colon (b ∷ w) = go (eqb b colon) (any_colon w)
  where
    go : (t : Bool) {x y : Bool} → x ≡ y → (t || x) ≡ either t y
    go true e = refl
    go false e = e

-- a colon behind any bytes is found
pub colon_behind : (s t : List ℕ) → has_colon (s ++ colon ∷ t) ≡ true
unfolding has_colon
colon_behind [] t = refl
colon_behind (b ∷ s) t = either_r (eqb b colon) (has_colon (s ++ colon ∷ t)) (colon_behind s t)
