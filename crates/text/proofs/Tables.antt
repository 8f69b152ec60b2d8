-- Laws of tables and of rows of bytes: a computed test over a whole table bounds each entry, and `same` tells equal
-- rows.
use Prim.Native.Nat.{ℕ, zero, suc, ◌≤◌}
use mathlib.Core.Path.{◌≡◌, refl, sym}
use mathlib.Core.Bool.{Bool, true, false}
use mathlib.Core.List.{List, [], ◌∷◌}
use native.Mathlib.Omega.{arith}
use borrow.Author.Tests.{leb-true, eqb-true, eq-eqb}
use lib.ListN.{get_or}
use lib.Dec.{leb, eqb}
use Rattle.rules.specs.Limits.{both}
use Rattle.rules.proofs.Tests.{both_l, both_r}
use Rattle.text.specs.Texts.{same}

-- every entry of a table is at most m
unfoldable pub all_up_to : ℕ → List ℕ → Bool
all_up_to m [] = true
all_up_to m (x ∷ t) = both (leb x m) (all_up_to m t)

pub up_to : (m : ℕ) (t : List ℕ) → all_up_to m t ≡ true → (i : ℕ) → get_or t i 0 ≤ m
unfolding all_up_to
up_to m [] e i = omega arith
up_to m (x ∷ t) e zero = leb-true x m (both_l (leb x m) (all_up_to m t) e)
up_to m (x ∷ t) e (suc i) = up_to m t (both_r (leb x m) (all_up_to m t) e) i

same_refl : (s : List ℕ) → same s s ≡ true
unfolding same
same_refl [] = refl
same_refl (a ∷ s) = rw (eq-eqb a a refl) (same_refl s)

pub same_eq : (s t : List ℕ) → same s t ≡ true → s ≡ t
unfolding same
same_eq [] [] e = refl
same_eq [] (b ∷ t) e = cc
same_eq (a ∷ s) [] e = cc
same_eq (a ∷ s) (b ∷ t) e =
    let p : a ≡ b = eqb-true a b (both_l (eqb a b) (same s t) e) in
    let q : s ≡ t = same_eq s t (both_r (eqb a b) (same s t) e) in
    cc

-- a test that tells equal rows is `same`
pub told : (s t : List ℕ) (r : Bool) → (r ≡ true → s ≡ t) → (s ≡ t → r ≡ true) → r ≡ same s t
told s t true f g = let e : s ≡ t = f refl in let k : same s s ≡ true = same_refl s in cc
told s t false f g = unlike (same s t) refl where
  unlike : (q : Bool) → same s t ≡ q → false ≡ same s t
  unlike true e = let h : false ≡ true = g (same_eq s t e) in cc
  unlike false e = sym e
