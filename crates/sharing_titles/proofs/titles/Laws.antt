-- Rows of one length are as many titles, and the title at a place has the rows' numbers there; a row is added up a
-- place at a time. Rests on nothing but induction over the rows.
use mathlib.Core.Path.{◌≡◌, refl, ap}
use mathlib.Core.List.{List, [], ◌∷◌, map}
use Prim.Native.Nat.{ℕ, zero, suc, ◌+◌, ◌≤◌, ◌<◌}
use native.Mathlib.Omega.{arith}
use native.Mathlib.Numerals.{add-one}
use lib.ListN.{length, get_or, drop, drop_of_length-le}
use lib.Seq.{drop-cons}
use Rattle.sharing_titles.specs.Titles.{titles, rated_title, row_total, SameLengths}

-- the rows without their first places
even_tail : {r d f k : ℕ} {rs ds fs ks : List ℕ} → SameLengths (r ∷ rs) (d ∷ ds) (f ∷ fs) (k ∷ ks) → SameLengths rs ds fs ks
even_tail e = record { second = omega arith; third = omega arith; fourth = omega arith }

pub titles_length : (rs ds fs ks : List ℕ) → SameLengths rs ds fs ks → length (titles rs ds fs ks) ≡ length rs
unfolding titles
titles_length [] ds fs ks e = refl
titles_length (r ∷ rs) [] fs ks e = omega arith
titles_length (r ∷ rs) (d ∷ ds) [] ks e = omega arith
titles_length (r ∷ rs) (d ∷ ds) (f ∷ fs) [] e = omega arith
titles_length (r ∷ rs) (d ∷ ds) (f ∷ fs) (k ∷ ks) e = ap suc (titles_length rs ds fs ks (even_tail e))

pub titles_at_lem : (rs ds fs ks : List ℕ) → SameLengths rs ds fs ks → (i : ℕ) → i < length rs
    → rated_title (titles rs ds fs ks) i
    ≡ record { rate = get_or rs i 0; length = get_or ds i 0; floor = get_or fs i 0; cap = get_or ks i 0 }
unfolding titles
titles_at_lem [] ds fs ks e i h = absurd (omega arith)
titles_at_lem (r ∷ rs) [] fs ks e i h = absurd (omega arith)
titles_at_lem (r ∷ rs) (d ∷ ds) [] ks e i h = absurd (omega arith)
titles_at_lem (r ∷ rs) (d ∷ ds) (f ∷ fs) [] e i h = absurd (omega arith)
titles_at_lem (r ∷ rs) (d ∷ ds) (f ∷ fs) (k ∷ ks) e zero h = refl
titles_at_lem (r ∷ rs) (d ∷ ds) (f ∷ fs) (k ∷ ks) e (suc i) h = titles_at_lem rs ds fs ks (even_tail e) i (omega arith)

-- the titles' floors are the row of floors
pub titles_floors : (rs ds fs ks : List ℕ) → SameLengths rs ds fs ks → map (λ t. t.floor) (titles rs ds fs ks) ≡ fs
unfolding titles
titles_floors [] ds [] ks e = refl
titles_floors [] ds (f ∷ fs) ks e = absurd (omega arith)
titles_floors (r ∷ rs) [] fs ks e = absurd (omega arith)
titles_floors (r ∷ rs) (d ∷ ds) [] ks e = absurd (omega arith)
titles_floors (r ∷ rs) (d ∷ ds) (f ∷ fs) [] e = absurd (omega arith)
titles_floors (r ∷ rs) (d ∷ ds) (f ∷ fs) (k ∷ ks) e = ap (λ l. f ∷ l) (titles_floors rs ds fs ks (even_tail e))

-- the row from a place on is what stands there and the rest
pub total_next : (x : List ℕ) (i : ℕ) → i < length x → row_total (drop i x) ≡ get_or x i 0 + row_total (drop (i + 1) x)
unfolding row_total
total_next x i h = rw (add-one) (ap row_total (drop-cons x i 0 h))

pub total_none : (x : List ℕ) (i : ℕ) → length x ≤ i → row_total (drop i x) ≡ 0
unfolding row_total
total_none x i h = ap row_total (drop_of_length-le x h)
