-- A test of every item of a row, as code asks it item by item, is the test at every place.
use mathlib.Core.Path.{◌≡◌, refl, sym, ap, ◌∙◌}
use mathlib.Core.Bool.{Bool, true, false, ◌&&◌}
use mathlib.Core.List.{List, [], ◌∷◌}
use Prim.Native.Nat.{ℕ, zero, suc}
use lib.ListN.{length, get_or}
use Rattle.std.specs.List.{list_all}
use Rattle.rules.specs.Limits.{both}
use Rattle.rules.specs.Search.{every}

swap : (a b c : Bool) → both a (both b c) ≡ both b (both a c)
swap true b c = refl
swap false true c = refl
swap false false c = refl

and_both : (a b : Bool) → (a && b) ≡ both a b
and_both true b = refl
and_both false b = refl

-- the first place stands for itself
every_front : (p : ℕ → Bool) (n : ℕ) → every p (suc n) ≡ both (p zero) (every (λ j. p (suc j)) n)
unfolding every
every_front p zero = refl
every_front p (suc n) = ap (both (p (suc n))) (every_front p n) ∙ swap (p (suc n)) (p zero) (every (λ j. p (suc j)) n)

pub all_every : (p : ℕ → Bool) (xs : List ℕ) → list_all p xs ≡ every (λ j. p (get_or xs j 0)) (length xs)
unfolding every
all_every p [] = refl
all_every p (x ∷ xs) =
    ap (λ b. p x && b) (all_every p xs) ∙ and_both (p x) _ ∙ sym (every_front (λ j. p (get_or (x ∷ xs) j 0)) (length xs))
