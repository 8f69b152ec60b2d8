-- A row while the items of a list go into its first places, one by one: the places passed have them, and later places stay.
use Prim.Native.Nat.{ℕ, zero, suc, ◌≤◌, ◌<◌}
use mathlib.Core.Path.{◌≡◌, refl, ap}
use mathlib.Core.List.{List, [], ◌∷◌, ◌++◌}
use native.Mathlib.Omega.{arith}
use lib.ListN.{length, get_or, set, take, drop}

pub put_more : {A : Type 0} (xs row : List A) (d : A) (i : ℕ) → i < length xs → i < length row →
    set (take i xs ++ drop i row) i (get_or xs i d) ≡ take (suc i) xs ++ drop (suc i) row
put_more [] row d i h l = absurd (omega arith)
put_more (x ∷ xs) [] d i h l = absurd (omega arith)
put_more (x ∷ xs) (y ∷ row) d zero h l = refl
put_more (x ∷ xs) (y ∷ row) d (suc i) h l = ap (λ zs. x ∷ zs) (put_more xs row d i (omega arith) (omega arith))

-- a row as long as the list is the list in the end
pub put_all : {A : Type 0} (xs row : List A) (n i : ℕ) → length xs ≡ n → length row ≡ n → n ≤ i → take i xs ++ drop i row ≡ xs
put_all [] [] n zero e f h = refl
put_all [] [] n (suc i) e f h = refl
put_all [] (y ∷ row) n i e f h = absurd (omega arith)
put_all (x ∷ xs) [] n i e f h = absurd (omega arith)
put_all (x ∷ xs) (y ∷ row) n zero e f h = absurd (omega arith)
put_all (x ∷ xs) (y ∷ row) n (suc i) e f h =
    ap (λ zs. x ∷ zs) (put_all xs row (length xs) i refl (omega arith) (omega arith))
