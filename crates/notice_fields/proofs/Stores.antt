-- Runs of stores: one run behind another, and a run from the start.
-- Rests on the laws of lists.
use mathlib.Core.Path.{◌≡◌, ◌∙◌}
use mathlib.Core.List.{List, [], ◌∷◌, ◌++◌}
use Prim.Native.Nat.{ℕ, suc, ◌+◌, ◌≤◌}
use native.Mathlib.Nat.{add-zero, zero-add}
use native.Mathlib.Omega.{arith}
use lib.ListN.{length, set, drop}
use lib.Seq.{sets, sets-eq}

pub sets_append : (xs l ys : List ℕ) (a : ℕ) → sets l a (xs ++ ys) ≡ sets (sets l a xs) (a + length xs) ys
sets_append [] l ys a = rw add-zero
sets_append (x ∷ xs) l ys a =
    let e : suc a + length xs ≡ a + suc (length xs) = omega arith in
    sets_append xs (set l a x) ys (suc a) ∙ rw e

-- a run of stores from the start is the bytes and what stood after them
pub laid : (bs l : List ℕ) → length bs ≤ length l → sets l 0 bs ≡ bs ++ drop (length bs) l
laid bs l h = sets-eq bs l 0 (rw zero-add h) ∙ rw zero-add
