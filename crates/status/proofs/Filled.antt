-- A row that is filled from the front, one place a turn, and an id of a row within its limit.
-- Rests on the laws of lists and searches.
use mathlib.Core.Path.{◌≡◌, refl, ap₂, ◌∙◌}
use mathlib.Core.Bool.{true}
use mathlib.Core.Logic.{⊎_elim}
use mathlib.Core.List.{List, [], ◌∷◌, map}
use Prim.Native.Nat.{ℕ, zero, suc, ◌≤◌, ◌<◌}
use native.Mathlib.Omega.{arith}
use lib.Dec.{leb}
use lib.ListN.{length, get_or, set}
use lib.Seq.{get_or-set_same, get_or-set_other}
use borrow.Author.Tests.{leb-true}
use Rattle.rules.specs.Limits.{id_max}
use Rattle.rules.proofs.Search.{every_out, below_suc}
use Rattle.status.specs.Rows.{ids_ok}

-- the places below i of a row have the values of f at the ids
abbrev pub Filled : (ℕ → ℕ) → List ℕ → List ℕ → ℕ → Type 0
Filled f ids row i = (k : ℕ) → k < i → get_or row k 0 ≡ f (get_or ids k 0)

pub filled_more : (f : ℕ → ℕ) (ids row : List ℕ) (i v : ℕ) → i < length row → Filled f ids row i →
    v ≡ f (get_or ids i 0) → Filled f ids (set row i v) (suc i)
filled_more f ids row i v l done e k below =
    ⊎_elim
    (λ less. get_or-set_other row i k v 0 (λ q. omega arith) ∙ done k less)
    (λ here. rw here (get_or-set_same row i v 0 l ∙ e))
    (below_suc k i below)

-- a row whose every place has what f makes of another's is that other row under f
pub every_place : {A B : Type 0} (f : A → B) (x : A) (y : B) (xs : List A) (ys : List B) → length ys ≡ length xs
    → ((k : ℕ) → k < length xs → get_or ys k y ≡ f (get_or xs k x)) → ys ≡ map f xs
every_place f x y [] [] e g = refl
every_place f x y [] (b ∷ ys) e g = absurd (omega arith)
every_place f x y (a ∷ xs) [] e g = absurd (omega arith)
every_place {A} {B} f x y (a ∷ xs) (b ∷ ys) e g =
    ap₂ (λ (z : B) (zs : List B). z ∷ zs) (g zero (omega arith))
    (every_place f x y xs ys (omega arith) (λ k l. g (suc k) (omega arith)))

pub filled_all : (f : ℕ → ℕ) (ids row : List ℕ) → length row ≡ length ids → Filled f ids row (length ids) →
    row ≡ map f ids
filled_all f ids row e done = every_place f 0 0 ids row e done

pub id_below : (ids : List ℕ) (i : ℕ) → ids_ok ids ≡ true → i < length ids → get_or ids i 0 ≤ id_max
unfolding ids_ok
id_below ids i ok l = leb-true (get_or ids i 0) id_max (every_out (λ j. leb (get_or ids j 0) id_max) (length ids) i ok l)
