-- What a title that takes part is, that its numbers fit the rows of the sharing, and that those who take part fit their places.
-- Rests on the limits of a state's numbers and the laws of searches.
use mathlib.Core.Path.{◌≡◌, refl, sym, ap, ◌∙◌}
use mathlib.Core.Bool.{Bool, true, false, not}
use mathlib.Core.List.{List}
use mathlib.Core.Logic.{⊎_elim}
use Prim.Native.Nat.{ℕ, zero, suc, ◌≤◌, ◌<◌}
use native.Mathlib.Omega.{arith}
use native.Mathlib.Numerals.{add-one}
use lib.Dec.{eqb}
use lib.ListN.{get_or, length, take}
use lib.Seq.{length-take-le}
use borrow.Author.Tests.{leb-true, eqb-true, not-true}
use Rattle.rules.specs.Limits.{length_max, floor_max, steady_max, count_max, titles_max}
use Rattle.rules.specs.Refusals.{pick}
use Rattle.rules.specs.Search.{how_many}
use Rattle.rules.proofs.Tests.{decide, both_l, both_r}
use Rattle.rules.proofs.Search.{how_many_le, how_many_hit, how_many_miss}
use Rattle.story.specs.declared.Title.{Title}
use Rattle.story.specs.declared.State.{State}
use Rattle.story.specs.Kept.{open_mode, is_steady_title, title_at, ruling, numbers_ok}
use Rattle.sharers.specs.declared.rows.Rows.{Rows}
use Rattle.sharers.specs.Sharers.{is_sharer, takes_part}
use Rattle.sharers.specs.Rows.{no_row, joined, rows_to, FullRows}
use Rattle.sharers.proofs.Ids.{row_to, row_length_lem}

-- a title that takes part is open, and no skip-forward title
module _ (t : Title) (part : is_sharer t ≡ true) where
  pub sharer_open : t.mode ≡ open_mode
  sharer_open = eqb-true t.mode open_mode (both_l (eqb t.mode open_mode) (not (is_steady_title t)) part)

  pub sharer_padded : is_steady_title t ≡ false
  sharer_padded = not-true (is_steady_title t) (both_r (eqb t.mode open_mode) (not (is_steady_title t)) part)

-- what the rows take of a title is at most its limit
module _ (t : Title) (ok : numbers_ok t ≡ true) where
  pub length_high : t.film.length ≤ length_max
  unfolding numbers_ok
  length_high = search (both_l, both_r, leb-true) depth 12

  floor_cut : t.film.floor ≤ pick (is_steady_title t) steady_max floor_max
  unfolding numbers_ok
  floor_cut = search (both_l, both_r, leb-true) depth 12

  pub floor_small : t.film.floor ≤ steady_max
  floor_small =
      ⊎_elim (λ x. rw x at floor_cut) (λ x. let h : t.film.floor ≤ floor_max = rw x at floor_cut in omega arith)
      (decide (is_steady_title t))

  pub floor_high : is_sharer t ≡ true → t.film.floor ≤ floor_max
  floor_high part = rw (sharer_padded t part) at floor_cut

  pub cap_high : t.film.cap ≤ count_max
  unfolding numbers_ok
  cap_high = search (both_l, both_r, leb-true) depth 12

-- as many lanes rule as the count has, or none
pub rules_few : (t : Title) → t.count ≤ count_max → ruling t ≤ count_max
unfolding ruling
rules_few t le = go (eqb t.mode open_mode)
  where
    go : (b : Bool) → pick b t.count 0 ≤ count_max
    go true = le
    go false = omega arith

-- the places in use of a row, as a slice of it
pub in_use : (n : ℕ) (row : List ℕ) → n ≤ titles_max → length row ≡ titles_max → n ≡ length (take n row)
in_use n row l e = sym (length-take-le n row (omega arith))

-- four rows that are filled from the front with the numbers of the ids that pass
abbrev pub rows_by : (ℕ → Bool) → (ℕ → ℕ) → (ℕ → Title) → ℕ → Rows
rows_by p rate title n =
    record {
      many = how_many p n;
      rates = row_to p rate no_row n;
      lengths = row_to p (λ i. (title i).film.length) no_row n;
      floors = row_to p (λ i. (title i).film.floor) no_row n;
      caps = row_to p (λ i. (title i).film.cap) no_row n;
    }

rows_next : (p : ℕ → Bool) (rate : ℕ → ℕ) (title : ℕ → Title) (n : ℕ) →
    pick (p n) (joined (rows_by p rate title n) (title n) (rate n)) (rows_by p rate title n) ≡ rows_by p rate title (suc n)
unfolding row_to
rows_next p rate title n =
    ⊎_elim (λ hit. rw (how_many_hit p n hit, hit, add-one)) (λ miss. rw (how_many_miss p n miss, miss)) (decide (p n))

pub rows_are : (s : State) (rates : List ℕ) (n : ℕ) →
    rows_to s rates n ≡ rows_by (takes_part s) (λ i. get_or rates i 0) (λ i. title_at s i) n
unfolding rows_to row_to how_many
rows_are s rates zero = refl
rows_are s rates (suc n) =
    ap (λ (q : Rows). pick (takes_part s n) (joined q (title_at s n) (get_or rates n 0)) q) (rows_are s rates n)
    ∙ rows_next (takes_part s) (λ i. get_or rates i 0) (λ i. title_at s i) n

-- there is a place for each title
pub rows_room : (s : State) (rates : List ℕ) (n : ℕ) → n < titles_max → (rows_to s rates n).many < titles_max
rows_room s rates n l = rw (rows_are s rates n) (omega (arith, how_many_le (takes_part s) n))

pub rows_whole : (s : State) (rates : List ℕ) → FullRows (rows_to s rates titles_max)
rows_whole s rates =
    rw (rows_are s rates titles_max)
    (record {
      few = how_many_le (takes_part s) titles_max;
      rates = row_length_lem (takes_part s) (λ i. get_or rates i 0) no_row titles_max;
      lengths = row_length_lem (takes_part s) (λ i. (title_at s i).film.length) no_row titles_max;
      floors = row_length_lem (takes_part s) (λ i. (title_at s i).film.floor) no_row titles_max;
      caps = row_length_lem (takes_part s) (λ i. (title_at s i).film.cap) no_row titles_max;
    })
