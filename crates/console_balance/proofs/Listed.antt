-- What the planner gave, put behind a place, is what the definitions say: its list as lines, or the refusal.
-- Rests on the planner's own account of its answer and of the rows that it leaves.
use Prim.Native.Nat.{ℕ, ◌≤◌, ◌<◌}
use mathlib.Core.Path.{◌≡◌, refl, sym, ◌∙◌, ap}
use mathlib.Core.List.{List, ◌++◌, map}
use native.Mathlib.Omega.{arith}
use borrow.Author.Tests.{eq-eqb, ne_eqb}
use lib.ListN.{length, get_or, drop, length-append, length-map, get_or-append, get_or-map}
use Rattle.rules.specs.Refusals.{done}
use Rattle.story.specs.declared.State.{State}
use Rattle.planner.specs.Moves.{Move}
use Rattle.planner.specs.Outcome.{Answered, given, room_of, row_from}
use Rattle.text.specs.declared.page.Page.{Page}
use Rattle.text.specs.Pages.{Puts}
use Rattle.text.proofs.Pages.{told_as}
use Rattle.words.specs.Words.{refusal_text}
use Rattle.console_answers.proofs.Rows.{each_same}
use Rattle.console_balance.specs.Balance.{no_move, many_text, changes_text, rows_text, listed_text}

-- a number of each change stands in a row that has these numbers first
stands : (f : Move → ℕ) → f no_move ≡ 0 → (ms : List Move) (row row' : List ℕ) → row' ≡ row_from f ms row → (j : ℕ) → j < length ms →
    get_or row' j 0 ≡ f (get_or ms j no_move)
stands f z ms row row' e j h =
    let few : j < length (map f ms) = rw (length-map ms f) h in
    rw (e, get_or-append (map f ms) (drop (length ms) row) 0 j few)
    (ap (get_or (map f ms) j) (sym z) ∙ get_or-map f ms j no_move)

-- such a row has a place for each change
placed : (f : Move → ℕ) (ms : List Move) (row row' : List ℕ) → row' ≡ row_from f ms row → length ms ≤ length row'
placed f ms row row' e = rw e (omega (arith, length-append (map f ms) (drop (length ms) row), length-map ms f))

module _ (s : State) (τ : ℕ) (rates is ts ks : List ℕ) (a n : ℕ) (is' ts' ks' : List ℕ)
    (e : Answered s τ rates is ts ks a n is' ts' ks') where
  abbrev ms : List Move
  ms = given s τ rates (room_of is ts ks)

  pub has_places : (n ≤ length is') × ((n ≤ length ts') × (n ≤ length ks'))
  has_places =
      rw e.many
      (placed (λ m. m.title) ms is is' e.ids, (placed (λ m. m.time) ms ts ts' e.times, placed (λ m. m.count) ms ks ks' e.counts))

  listed : rows_text is' ts' ks' n ≡ changes_text ms
  unfolding rows_text changes_text
  listed =
      rw e.many
      (ap (λ (l : List ℕ). many_text (length ms) ++ l)
      (each_same _ _ (length ms)
      (λ j h.
      rw (stands (λ m. m.title) refl ms is is' e.ids j h, stands (λ m. m.time) refl ms ts ts' e.times j h, stands (λ m. m.count) refl ms ks ks' e.counts j h)
      refl)))

  module _ {p q : Page} where
    pub list_told : a ≡ done → Puts p (rows_text is' ts' ks' n) q → Puts p (listed_text s τ rates (room_of is ts ks)) q
    unfolding listed_text
    list_told z f = rw (sym e.answer, eq-eqb _ _ z) (told_as listed f)

    pub list_refused : (a ≡ done → ⊥) → Puts p (refusal_text a 0) q → Puts p (listed_text s τ rates (room_of is ts ks)) q
    unfolding listed_text
    list_refused z f = rw (sym e.answer, ne_eqb _ _ z) f
