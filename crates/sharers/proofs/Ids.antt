-- The ids that pass a test: how many they are, what they add up to, and what is read at their places.
-- Rests on the laws of searches and lists.
use mathlib.Core.Path.{◌≡◌, refl, sym, ap, ◌∙◌}
use mathlib.Core.Bool.{Bool, true, false}
use mathlib.Core.List.{List, [], ◌∷◌, ◌++◌, map, map-append, append-nil}
use mathlib.Core.Logic.{⊎_elim}
use Prim.Native.Nat.{ℕ, zero, suc, ◌+◌, ◌≤◌, ◌<◌}
use native.Mathlib.Omega.{arith}
use lib.ListN.{length, get_or, set, take, length-append, length-map, length-set, get_or-append}
use lib.Seq.{get_or_at, take-suc-set, ext_get_or}
use Rattle.rules.specs.Refusals.{pick}
use Rattle.rules.specs.Search.{how_many, total}
use Rattle.rules.proofs.Tests.{decide}
use Rattle.rules.proofs.Search.{below_suc, how_many_hit, how_many_miss, how_many_mono, how_many_le, how_many_at}
use Rattle.sharing.specs.Titles.{row_total}
use Rattle.sharers.specs.Sharers.{ids_where}

row_append : (xs ys : List ℕ) → row_total (xs ++ ys) ≡ row_total xs + row_total ys
unfolding row_total
row_append [] ys = omega arith
row_append (x ∷ xs) ys = omega (arith, row_append xs ys)

module _ (p : ℕ → Bool) (n : ℕ) where
  -- one id more is the last where it passes, and none where it does not
  pub ids_hit : p n ≡ true → ids_where p (suc n) ≡ ids_where p n ++ (n ∷ [])
  unfolding ids_where
  ids_hit h = rw h

  pub ids_miss : p n ≡ false → ids_where p (suc n) ≡ ids_where p n
  unfolding ids_where
  ids_miss h = rw h (append-nil (ids_where p n))

pub ids_many : (p : ℕ → Bool) (n : ℕ) → length (ids_where p n) ≡ how_many p n
unfolding ids_where how_many
ids_many p zero = refl
ids_many p (suc n) =
    length-append (ids_where p n) (pick (p n) (n ∷ []) []) ∙ rw (ids_many p n) (go (p n))
  where
    go : (b : Bool) → how_many p n + length (pick b (n ∷ []) []) ≡ how_many p n + pick b 1 0
    go true = refl
    go false = refl

-- what is read of the ids, added up
pub ids_total : (p : ℕ → Bool) (f : ℕ → ℕ) (n : ℕ) → row_total (map f (ids_where p n)) ≡ total (λ i. pick (p i) (f i) 0) n
unfolding ids_where total row_total
ids_total p f zero = refl
ids_total p f (suc n) =
    ap row_total (map-append f (ids_where p n) (pick (p n) (n ∷ []) []))
    ∙ (row_append (map f (ids_where p n)) (map f (pick (p n) (n ∷ []) [])) ∙ rw (ids_total p f n) (go (p n)))
  where
    go : (b : Bool) →
        total (λ i. pick (p i) (f i) 0) n + row_total (map f (pick b (n ∷ []) []))
        ≡ total (λ i. pick (p i) (f i) 0) n + pick b (f n) 0
    go true = omega arith
    go false = refl

-- ---- what stands at a place

module _ {A : Type 0} (p : ℕ → Bool) (g : ℕ → A) where
  pub read_many : (n : ℕ) → length (map g (ids_where p n)) ≡ how_many p n
  read_many n = length-map (ids_where p n) g ∙ ids_many p n

  -- its place is there
  pub place_below : (n i : ℕ) → i < n → p i ≡ true → how_many p i < length (map g (ids_where p n))
  place_below n i l h = omega (arith, read_many n, how_many_hit p i h, how_many_mono p (suc i) n l)

  -- an id that passes has the place of how many pass before it
  pub ids_at : (d : A) (n i : ℕ) → i < n → p i ≡ true → get_or (map g (ids_where p n)) (how_many p i) d ≡ g i
  ids_at d zero i l h = absurd (omega arith)
  ids_at d (suc n) i l h =
      ⊎_elim
      (λ hit. rw (ids_hit p n hit, map-append g (ids_where p n) (n ∷ []))
      (⊎_elim
      (λ below. get_or-append (map g (ids_where p n)) (g n ∷ []) d (how_many p i) (place_below n i below h)
      ∙ ids_at d n i below h)
      (λ here. rw here (get_or_at (map g (ids_where p n)) (g n) [] d (how_many p n) (read_many n)))
      (below_suc i n l)))
      (λ miss. rw (ids_miss p n miss)
      (⊎_elim (λ below. ids_at d n i below h)
      (λ here. absurd (omega (arith, rw here at (how_many_hit p i h), how_many_miss p n miss)))
      (below_suc i n l)))
      (decide (p n))

  -- what holds of each id that passes holds at each place
  pub ids_each : (d : A) (n : ℕ) (P : A → Type 0) → ((i : ℕ) → i < n → p i ≡ true → P (g i)) → (j : ℕ)
      → j < length (map g (ids_where p n)) → P (get_or (map g (ids_where p n)) j d)
  ids_each d n P f j l =
      let r = how_many_at p n j (omega (arith, read_many n)) in
      rw (← r.3, ids_at d n r.0 r.1 r.2) (f r.0 r.1 r.2)

-- a row by the places of the ids that pass, read at those places, is the row
pub ids_read : (p : ℕ → Bool) (n : ℕ) (row : List ℕ) → length row ≡ how_many p n
    → map (λ i. get_or row (how_many p i) 0) (ids_where p n) ≡ row
ids_read p n row e =
    let g : ℕ → ℕ = λ i. get_or row (how_many p i) 0 in
    ext_get_or 0 (map g (ids_where p n)) row (read_many p g n ∙ sym e)
    (λ j l. let r = how_many_at p n j (omega (arith, read_many p g n)) in rw (← r.3) (ids_at p g 0 n r.0 r.1 r.2))

-- ---- a row that is filled from the front

-- of the ids below n, those that pass have put their numbers into a row, one behind the other
unfoldable pub row_to : (ℕ → Bool) → (ℕ → ℕ) → List ℕ → ℕ → List ℕ
row_to p f row zero = row
row_to p f row (suc n) = pick (p n) (set (row_to p f row n) (how_many p n) (f n)) (row_to p f row n)

module _ (p : ℕ → Bool) (f : ℕ → ℕ) (row : List ℕ) where
  pub row_length_lem : (n : ℕ) → length (row_to p f row n) ≡ length row
  unfolding row_to
  row_length_lem zero = refl
  row_length_lem (suc n) = go (p n) (row_length_lem n)
    where
      go : (b : Bool) → length (row_to p f row n) ≡ length row
          → length (pick b (set (row_to p f row n) (how_many p n) (f n)) (row_to p f row n)) ≡ length row
      go true e = length-set (row_to p f row n) (how_many p n) (f n) ∙ e
      go false e = e

  pub row_is : (n : ℕ) → n ≤ length row → take (how_many p n) (row_to p f row n) ≡ map f (ids_where p n)
  unfolding row_to how_many ids_where
  row_is zero l = refl
  row_is (suc n) l =
      ⊎_elim
      (λ hit. rw (how_many_hit p n hit, ids_hit p n hit, hit, map-append f (ids_where p n) (n ∷ []))
      (take-suc-set (row_to p f row n) (how_many p n) (f n) (omega (arith, row_length_lem n, how_many_le p n))
      ∙ ap (λ (xs : List ℕ). xs ++ (f n ∷ [])) (row_is n (omega arith))))
      (λ miss. rw (how_many_miss p n miss, ids_miss p n miss, miss) (row_is n (omega arith)))
      (decide (p n))
