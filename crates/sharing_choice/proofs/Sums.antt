-- What one changed count does to a choice: to its total, to its sum, to its places and to its rank among equals.
-- Rests on induction over the titles.
use mathlib.Core.Path.{◌≡◌, sym, ◌∙◌}
use mathlib.Core.Bool.{false}
use mathlib.Core.List.{List, [], ◌∷◌}
use Prim.Native.Nat.{ℕ, zero, suc, ◌+◌, ◌≤◌, ◌<◌}
use native.Mathlib.Omega.{arith}
use lib.ListN.{length, get_or, set, length-set}
use lib.Seq.{get_or-set_same, get_or-set_other}
use Rattle.sharing_titles.specs.declared.titles.Rated.{Rated}
use Rattle.sharing_titles.specs.Titles.{rated_title, row_total}
use Rattle.sharing_titles.specs.Term.{term}
use Rattle.sharing_choice.specs.Choice.{wait_sum, at_least, Way}
use Rattle.sharing_choice.proofs.Order.{Trio, less, same, more, trio, or_is, or_more}

pub total_set : (x : List ℕ) (i v : ℕ) → i < length x → row_total (set x i v) + get_or x i 0 ≡ row_total x + v
unfolding row_total
total_set [] i v h = absurd (omega arith)
total_set (k ∷ x) zero v h = omega arith
total_set (k ∷ x) (suc i) v h = omega (arith, total_set x i v (omega arith))

pub total_mono : (x y : List ℕ) → length x ≡ length y → ((i : ℕ) → i < length x → get_or x i 0 ≤ get_or y i 0)
    → row_total x ≤ row_total y
unfolding row_total
total_mono [] y e h = omega arith
total_mono (k ∷ x) [] e h = absurd (omega arith)
total_mono (k ∷ x) (l ∷ y) e h =
    omega (arith, h 0 (omega arith), total_mono x y (omega arith) (λ i g. h (suc i) (omega arith)))

pub sum_set : (ts : List Rated) (x : List ℕ) (i v : ℕ) → i < length ts → length x ≡ length ts
    → wait_sum ts (set x i v) + term (rated_title ts i) (get_or x i 0) ≡ wait_sum ts x + term (rated_title ts i) v
unfolding wait_sum
sum_set [] x i v h e = absurd (omega arith)
sum_set (t ∷ ts) [] i v h e = absurd (omega arith)
sum_set (t ∷ ts) (k ∷ x) zero v h e = omega arith
sum_set (t ∷ ts) (k ∷ x) (suc i) v h e = omega (arith, sum_set ts x i v (omega arith) (omega arith))

-- what stands at a place after one count was set, by whether it is that place
pub at_set : (P : ℕ → ℕ → Type 0) (x : List ℕ) (i v : ℕ) → i < length x → P i v
    → ((j : ℕ) → (j ≡ i → ⊥) → P j (get_or x j 0)) → (j : ℕ) → P j (get_or (set x i v) j 0)
at_set P x i v l p q j = go (trio j i)
  where
    other : (j ≡ i → ⊥) → P j (get_or (set x i v) j 0)
    other n = rw (get_or-set_other x i j v 0 n) (q j n)

    go : Trio j i → P j (get_or (set x i v) j 0)
    go (less h) = other (omega arith)
    go (same e) = rw (e, get_or-set_same x i v 0 l) p
    go (more h) = other (omega arith)

-- one more at a place where the second row has more: still no more than the second row in all
pub raised : (n : ℕ) (p q : List ℕ) → length p ≡ n → length q ≡ n → (i : ℕ) → i < n → get_or p i 0 < get_or q i 0
    → ((j : ℕ) → j < n → get_or p j 0 ≤ get_or q j 0) → row_total (set p i (suc (get_or p i 0))) ≤ row_total q
raised n p q a b i l g up =
    total_mono (set p i (suc (get_or p i 0))) q (length-set p i _ ∙ a ∙ sym b)
    (λ j m.
    at_set (λ k v. k < n → v ≤ get_or q k 0) p i (suc (get_or p i 0)) (omega arith) (λ _. g) (λ k _ h. up k h) j
    (omega (arith, length-set p i (suc (get_or p i 0)))))

-- a count set within floor and cap leaves a way a way
pub way_set : (ts : List Rated) (x : List ℕ) → Way ts x → (i v : ℕ) → i < length ts → (rated_title ts i).floor ≤ v
    → v ≤ (rated_title ts i).cap
    → Way ts (set x i v)
way_set ts x w i v l f c =
    record {
      places = length-set x i v ∙ w.places;
      low =
          λ j h.
          at_set (λ m k. m < length ts → (rated_title ts m).floor ≤ k) x i v (omega (arith, w.places)) (λ _. f)
          (λ m n g. w.low m g) j h;
      high =
          λ j h.
          at_set (λ m k. m < length ts → k ≤ (rated_title ts m).cap) x i v (omega (arith, w.places)) (λ _. c)
          (λ m n g. w.high m g) j h;
    }

-- less at the first place where they differ: not at least
pub ranks : (x y : List ℕ) (j : ℕ) → length x ≡ length y → j < length x → ((i : ℕ) → i < j → get_or x i 0 ≡ get_or y i 0)
    → get_or x j 0 < get_or y j 0 → at_least x y ≡ false
unfolding at_least
ranks [] y j e l s h = absurd (omega arith)
ranks (k ∷ x) [] j e l s h = absurd (omega arith)
ranks (k ∷ x) (m ∷ y) zero e l s h = or_more (at_least x y) h
ranks (k ∷ x) (m ∷ y) (suc j) e l s h =
    or_is (at_least x y) (sym (s 0 (omega arith)))
    ∙ ranks x y j (omega arith) (omega arith) (λ i g. s (suc i) (omega arith)) h
