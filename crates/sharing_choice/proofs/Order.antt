-- The order of preference among choices: of two one is preferred, what is preferred to the preferred is preferred, and
-- two choices that are each preferred to the other are the same. Rests on the order of numbers.
use mathlib.Core.Path.{◌≡◌, refl, sym, ap₂, ◌∙◌}
use mathlib.Core.Bool.{Bool, true, false, false≢true}
use mathlib.Core.List.{List, [], ◌∷◌}
use mathlib.Core.Logic.{◌⊎◌, inl, inr}
use Prim.Native.Nat.{ℕ, ◌≤◌, ◌<◌}
use native.Mathlib.Omega.{arith}
use native.Mathlib.Decide.{dec_lt}
use lib.ListN.{length}
use borrow.Author.Tests.{lt-ltb, le-ltb, eq-eqb, ne_eqb}
use Rattle.sharing_titles.specs.declared.titles.Rated.{Rated}
use Rattle.sharing_choice.specs.Choice.{less_or, at_least, prefers, wait_sum}

-- of two numbers the first is less, or it is not
pub side : (m n : ℕ) → (m < n) ⊎ (n ≤ m)
side m n = go (dec_lt m n)
  where
    go : Dec (m < n) → (m < n) ⊎ (n ≤ m)
    go (yes l) = inl l
    go (no g) = inr (omega arith)

-- two numbers: the first is less, they are equal, or it is more
pub data Trio (a b : ℕ) : Type 0 where
  less : a < b → Trio a b
  same : a ≡ b → Trio a b
  more : b < a → Trio a b

pub trio : (a b : ℕ) → Trio a b
trio a b = go (side a b) (side b a)
  where
    go : (a < b) ⊎ (b ≤ a) → (b < a) ⊎ (a ≤ b) → Trio a b
    go (inl l) s = less l
    go (inr l) (inl g) = more g
    go (inr l) (inr g) = same (omega arith)

module _ {a b : ℕ} (r : Bool) where
  pub or_less : a < b → less_or a b r ≡ true
  unfolding less_or
  or_less l = rw (lt-ltb _ _ l)

  pub or_same : a ≡ b → r ≡ true → less_or a b r ≡ true
  unfolding less_or
  or_same e h = simp (le-ltb a b (omega arith), eq-eqb _ _ e, h)

  pub or_is : a ≡ b → less_or a b r ≡ r
  unfolding less_or
  or_is e = simp (le-ltb a b (omega arith), eq-eqb _ _ e)

  pub or_more : b < a → less_or a b r ≡ false
  unfolding less_or
  or_more l = simp (le-ltb a b (omega arith), ne_eqb a b (omega arith))

-- how it can be that a is less, or equal and r
pub or_view : (a b : ℕ) (r : Bool) → less_or a b r ≡ true → (a < b) ⊎ ((a ≡ b) × (r ≡ true))
or_view a b r h = go (trio a b)
  where
    go : Trio a b → (a < b) ⊎ ((a ≡ b) × (r ≡ true))
    go (less l) = inl l
    go (same e) = inr (e, sym (or_is r e) ∙ h)
    go (more g) = absurd (false≢true (sym (or_more r g) ∙ h))

or_total : (a b : ℕ) (r s : Bool) → (r ≡ true) ⊎ (s ≡ true) → (less_or a b r ≡ true) ⊎ (less_or b a s ≡ true)
or_total a b r s t = go (trio a b) t
  where
    go : Trio a b → (r ≡ true) ⊎ (s ≡ true) → (less_or a b r ≡ true) ⊎ (less_or b a s ≡ true)
    go (less l) u = inl (or_less r l)
    go (same e) (inl p) = inl (or_same r e p)
    go (same e) (inr p) = inr (or_same s (sym e) p)
    go (more g) u = inr (or_less s g)

or_trans : (a b c : ℕ) {r s q : Bool} → (r ≡ true → s ≡ true → q ≡ true) → less_or a b r ≡ true → less_or b c s ≡ true
    → less_or a c q ≡ true
or_trans a b c {r} {s} {q} f h k = go (or_view a b r h) (or_view b c s k)
  where
    go : (a < b) ⊎ ((a ≡ b) × (r ≡ true)) → (b < c) ⊎ ((b ≡ c) × (s ≡ true)) → less_or a c q ≡ true
    go (inl l) (inl m) = or_less q (omega arith)
    go (inl l) (inr m) = or_less q (omega arith)
    go (inr l) (inl m) = or_less q (omega arith)
    go (inr l) (inr m) = or_same q (omega arith) (f l.1 m.1)

or_antisym : (a b : ℕ) (r s : Bool) → less_or a b r ≡ true → less_or b a s ≡ true → (a ≡ b) × (r ≡ true) × (s ≡ true)
or_antisym a b r s h k = go (or_view a b r h) (or_view b a s k)
  where
    go : (a < b) ⊎ ((a ≡ b) × (r ≡ true)) → (b < a) ⊎ ((b ≡ a) × (s ≡ true)) → (a ≡ b) × (r ≡ true) × (s ≡ true)
    go (inl l) (inl m) = absurd (omega arith)
    go (inl l) (inr m) = absurd (omega arith)
    go (inr l) (inl m) = absurd (omega arith)
    go (inr l) (inr m) = (l.0, l.1, m.1)

least_total : (x y : List ℕ) → (at_least x y ≡ true) ⊎ (at_least y x ≡ true)
unfolding at_least
least_total [] y = inl refl
least_total (a ∷ x) [] = inl refl
least_total (a ∷ x) (b ∷ y) = or_total b a (at_least x y) (at_least y x) (least_total x y)

least_trans : (x y z : List ℕ) → length x ≡ length y → length y ≡ length z → at_least x y ≡ true → at_least y z ≡ true
    → at_least x z ≡ true
unfolding at_least
least_trans [] y z p q h k = refl
least_trans (a ∷ x) y [] p q h k = refl
least_trans (a ∷ x) [] (c ∷ z) p q h k = absurd (omega arith)
least_trans (a ∷ x) (b ∷ y) (c ∷ z) p q h k =
    or_trans c b a (λ s r. least_trans x y z (omega arith) (omega arith) r s) k h

least_antisym : (x y : List ℕ) → length x ≡ length y → at_least x y ≡ true → at_least y x ≡ true → x ≡ y
unfolding at_least
least_antisym [] [] p h k = refl
least_antisym [] (b ∷ y) p h k = absurd (omega arith)
least_antisym (a ∷ x) [] p h k = absurd (omega arith)
least_antisym (a ∷ x) (b ∷ y) p h k =
    let e = or_antisym b a (at_least x y) (at_least y x) h k in
    ap₂ ◌∷◌ (sym e.0) (least_antisym x y (omega arith) e.1 e.2)

module _ (ts : List Rated) (x y : List ℕ) where
  pub prefers_total : (prefers ts x y ≡ true) ⊎ (prefers ts y x ≡ true)
  unfolding prefers
  prefers_total = or_total (wait_sum ts x) (wait_sum ts y) (at_least x y) (at_least y x) (least_total x y)

  pub prefers_antisym : length x ≡ length y → prefers ts x y ≡ true → prefers ts y x ≡ true → x ≡ y
  unfolding prefers
  prefers_antisym p h k =
      let e = or_antisym (wait_sum ts x) (wait_sum ts y) (at_least x y) (at_least y x) h k in
      least_antisym x y p e.1 e.2

  pub prefers_trans : (z : List ℕ) → length x ≡ length y → length y ≡ length z → prefers ts x y ≡ true
      → prefers ts y z ≡ true
      → prefers ts x z ≡ true
  unfolding prefers
  prefers_trans z p q h k = or_trans (wait_sum ts x) (wait_sum ts y) (wait_sum ts z) (λ r s. least_trans x y z p q r s) h k

pub prefers_self : (ts : List Rated) (x : List ℕ) → prefers ts x x ≡ true
prefers_self ts x = go (prefers_total ts x x)
  where
    go : (prefers ts x x ≡ true) ⊎ (prefers ts x x ≡ true) → prefers ts x x ≡ true
    go (inl h) = h
    go (inr h) = h
