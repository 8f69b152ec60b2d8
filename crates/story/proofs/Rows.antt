-- Laws of a stored row after stores at chosen places, and what dropping lanes makes of a title's two rows.
-- Rest on the laws of lists.
use mathlib.Core.Path.{◌≡◌, refl, sym, ap, ◌∙◌}
use mathlib.Core.Bool.{Bool, true, false}
use mathlib.Core.Logic.{⊎_elim}
use mathlib.Core.List.{List, [], ◌∷◌}
use Prim.Native.Nat.{ℕ, zero, suc, ◌≤◌, ◌<◌}
use native.Mathlib.Omega.{arith}
use lib.Dec.{ltb, leb, eqb}
use lib.ListN.{get_or, set, length, length-set}
use lib.Seq.{get_or-set_same, get_or-set_other}
use borrow.Author.Tests.{lt-leb, eqb-true, eqb-false}
use Rattle.rules.specs.Limits.{both}
use Rattle.rules.specs.Refusals.{pick}
use Rattle.rules.proofs.Tests.{decide}
use Rattle.story.specs.declared.Title.{Title}
use Rattle.story.specs.Life.{reach}
use Rattle.story.specs.Kept.{kept_within, kept_owed, kept_awaited, wants, wants_from}
use Rattle.story.specs.Next.{drop_lanes, drop_lane, with_rows}

-- the row with f j at each place j below i that p picks
unfoldable pub filled : (ℕ → Bool) → (ℕ → ℕ) → List ℕ → ℕ → List ℕ
filled p f row zero = row
filled p f row (suc i) = pick (p i) (set (filled p f row i) i (f i)) (filled p f row i)

-- a store keeps a bound on the whole row
pub set_high : (row : List ℕ) (i v b : ℕ) → v ≤ b → ((j : ℕ) → get_or row j 0 ≤ b) → (j : ℕ) → get_or (set row i v) j 0 ≤ b
set_high [] i v b h f j = omega arith
set_high (x ∷ row) zero v b h f zero = h
set_high (x ∷ row) zero v b h f (suc j) = f (suc j)
set_high (x ∷ row) (suc i) v b h f zero = f zero
set_high (x ∷ row) (suc i) v b h f (suc j) = set_high row i v b h (λ k. f (suc k)) j

module _ (p : ℕ → Bool) (f : ℕ → ℕ) (row : List ℕ) where
  pub filled_length : (i : ℕ) → length (filled p f row i) ≡ length row
  unfolding filled
  filled_length zero = refl
  filled_length (suc i) =
      ⊎_elim (λ x. rw x (length-set (filled p f row i) i (f i) ∙ filled_length i)) (λ x. rw x (filled_length i)) (decide (p i))

  pub filled_high : (b : ℕ) → ((j : ℕ) → f j ≤ b) → ((j : ℕ) → get_or row j 0 ≤ b) → (i j : ℕ) →
      get_or (filled p f row i) j 0 ≤ b
  unfolding filled
  filled_high b hf hr zero j = hr j
  filled_high b hf hr (suc i) j =
      ⊎_elim (λ x. rw x (set_high (filled p f row i) i (f i) b (hf i) (filled_high b hf hr i) j))
      (λ x. rw x (filled_high b hf hr i j)) (decide (p i))

  -- a picked place below i has its value
  pub filled_in : (i j : ℕ) → j < i → j < length row → p j ≡ true → get_or (filled p f row i) j 0 ≡ f j
  unfolding filled
  filled_in zero j b long x = absurd (omega arith)
  filled_in (suc i) j b long x =
      ⊎_elim
      (λ e.
      let q : j ≡ i = eqb-true j i e in
      let y : p i ≡ true = rw q at x in
      let long' : i < length (filled p f row i) = rw (filled_length i) (rw q at long) in
      rw (y, q) (get_or-set_same (filled p f row i) i (f i) 0 long'))
      (λ e.
      let ne : j ≡ i → ⊥ = eqb-false j i e in
      let ih : get_or (filled p f row i) j 0 ≡ f j = filled_in i j (omega arith) long x in
      ⊎_elim (λ y. rw y (get_or-set_other (filled p f row i) i j (f i) 0 ne ∙ ih)) (λ y. rw y ih) (decide (p i)))
      (decide (eqb j i))

  -- any other place stays
  pub filled_out : (i j : ℕ) → p j ≡ false → get_or (filled p f row i) j 0 ≡ get_or row j 0
  unfolding filled
  filled_out zero j x = refl
  filled_out (suc i) j x =
      ⊎_elim
      (λ y.
      rw y
      (get_or-set_other (filled p f row i) i j (f i) 0 (λ e. mathlib.Core.Bool.false≢true (sym x ∙ rw e y)) ∙ filled_out i j x))
      (λ y. rw y (filled_out i j x))
      (decide (p i))

-- a lane from k up to the count
abbrev pub is_dropped : Title → ℕ → ℕ → Bool
is_dropped t k l = both (leb k l) (ltb l t.count)

-- a turn to as many lanes drops none
pub drop_none : (t : Title) (n k i : ℕ) → i ≤ k → drop_lanes t n k i ≡ t
unfolding drop_lanes
drop_none t n k zero le = refl
drop_none t n k (suc i) le = rw (lt-leb k i (omega arith)) (drop_none t n k i (omega arith))

-- one lane's turn
drop_step : (t s : Title) (n i : ℕ) (d o : List ℕ) (b : Bool) → s ≡ with_rows t d o →
    pick b (drop_lane s n i) s
    ≡ with_rows t (pick b (set d i n) d) (pick b (set o i (kept_within t i n (reach t.film.cap))) o)
unfolding kept_within kept_owed kept_awaited wants wants_from
drop_step t s n i d o true e = ap (λ x. drop_lane x n i) e
drop_step t s n i d o false e = e

-- dropping lanes changes the two rows alone, each at the dropped lanes
pub drop_rows : (t : Title) (n k i : ℕ) →
    drop_lanes t n k i
    ≡ with_rows t (filled (is_dropped t k) (λ l. n) t.dropped i)
    (filled (is_dropped t k) (λ l. kept_within t l n (reach t.film.cap)) t.owed i)
unfolding drop_lanes filled
drop_rows t n k zero = refl
drop_rows t n k (suc i) =
    drop_step t (drop_lanes t n k i) n i (filled (is_dropped t k) (λ l. n) t.dropped i)
    (filled (is_dropped t k) (λ l. kept_within t l n (reach t.film.cap)) t.owed i) (is_dropped t k i) (drop_rows t n k i)
