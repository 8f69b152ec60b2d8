-- What a state within its limits gives of each title in it: the numbers of its film, its count, and its rows.
-- Rests on the laws of tests and searches.
use mathlib.Core.Path.{◌≡◌, sym, ◌∙◌}
use mathlib.Core.Bool.{true, not, false≢true}
use mathlib.Core.Logic.{⊎_elim}
use mathlib.Core.List.{List}
use Prim.Native.Nat.{ℕ, ◌≤◌, ◌<◌}
use native.Mathlib.Omega.{arith}
use lib.Dec.{leb, eqb}
use lib.ListN.{get_or}
use borrow.Author.Tests.{leb-true, eqb-true, eq-eqb, ne_eqb}
use Rattle.rules.specs.Limits.{either, asked_max, count_max, titles_max, pool_min, floor_min, count_places, lane_places}
use Rattle.rules.proofs.Tests.{both_l, both_r, either_out}
use Rattle.rules.proofs.Search.{every_out}
use Rattle.scheme.specs.Scheme.{steady_kind}
use Rattle.story.specs.declared.Title.{Title}
use Rattle.story.specs.declared.State.{State}
use Rattle.story.specs.Kept.{absent_mode, title_at, row_ok, numbers_ok, order_ok, title_ok, slot_ok, state_ok}
use Rattle.measures.specs.Readable.{Readable, AllReadable, Owing, Sending, Changeable}

module _ (t : Title) (ok : title_ok t ≡ true) where
  pub numbers : numbers_ok t ≡ true
  unfolding title_ok
  numbers = both_l (numbers_ok t) (either (eqb t.mode absent_mode) (order_ok t)) ok

  pub order : (t.mode ≡ absent_mode → ⊥) → order_ok t ≡ true
  unfolding title_ok
  order there =
      ⊎_elim (λ none. absurd (false≢true (sym (ne_eqb t.mode absent_mode there) ∙ none))) (λ o. o)
      (either_out (eqb t.mode absent_mode) (order_ok t) (both_r (numbers_ok t) (either (eqb t.mode absent_mode) (order_ok t)) ok))

  -- the upper limits that are used apart from the film's
  pub count_high : t.count ≤ count_max
  unfolding numbers_ok
  count_high = let n = numbers in search (both_l, both_r, leb-true) depth 12

  pub tuned_high : t.tuned ≤ asked_max
  unfolding numbers_ok
  tuned_high = let n = numbers in search (both_l, both_r, leb-true) depth 12

  -- of a skip-forward title floor and cap are one
  pub level : (t.mode ≡ absent_mode → ⊥) → t.film.kind ≡ steady_kind → t.film.floor ≡ t.film.cap
  unfolding order_ok
  level there steady =
      let o = order there in
      let l : either (not (eqb t.film.kind steady_kind)) (eqb t.film.floor t.film.cap) ≡ true = search (both_r) depth 12 in
      eqb-true t.film.floor t.film.cap (rw (eq-eqb t.film.kind steady_kind steady) at l)

  pub readable : Readable t
  unfolding numbers_ok order_ok
  readable there =
      let n = numbers in
      let o = order there in
      record {
        sized = record
            { low = search (both_l, leb-true) depth 12; high = search (both_l, both_r, leb-true) depth 12 };
        cut = record
            { low = let l : floor_min ≤ t.film.floor = search (both_l, both_r, leb-true) depth 12 in omega arith; fit = search (both_l, both_r, leb-true) depth 12; high = search (both_l, both_r, leb-true) depth 12 };
        flat = level there;
      }

  pub count_fit : (t.mode ≡ absent_mode → ⊥) → t.count ≤ t.film.cap
  unfolding order_ok
  count_fit there = let o = order there in search (both_l, both_r, leb-true) depth 12

  pub ends_ok : row_ok t.ends count_places ≡ true
  unfolding numbers_ok
  ends_ok = let n = numbers in search (both_l, both_r) depth 12

  pub dropped_ok : row_ok t.dropped lane_places ≡ true
  unfolding numbers_ok
  dropped_ok = let n = numbers in search (both_l, both_r) depth 12

-- a number of a row within its limit
pub in_row : (row : List ℕ) (n j : ℕ) → row_ok row n ≡ true → j < n → get_or row j 0 ≤ asked_max
in_row row n j ok l = leb-true (get_or row j 0) asked_max (every_out (λ j. leb (get_or row j 0) asked_max) n j ok l)

module _ (s : State) (ok : state_ok s ≡ true) where
  pub title_ok_lem : (i : ℕ) → i < titles_max → title_ok (title_at s i) ≡ true
  unfolding state_ok
  title_ok_lem i l =
      both_l (title_ok (title_at s i)) (either (leb pool_min s.pool) (eqb (title_at s i).mode absent_mode))
      (every_out (slot_ok s) titles_max i (search (both_l, both_r)) l)

  pub all_readable : AllReadable s
  all_readable i l = readable (title_at s i) (title_ok_lem i l)

-- a title that is there, in a state within its limits
module _ (t : Title) (ok : title_ok t ≡ true) (there : t.mode ≡ absent_mode → ⊥) where
  pub owing : Owing t
  owing = record { film = readable t ok there; ends = ends_ok t ok }

  pub sending : Sending t
  sending = record { owing = owing; dropped = dropped_ok t ok }

  pub changeable : Changeable t
  changeable = record { owing = owing; ruled = count_fit t ok there }
