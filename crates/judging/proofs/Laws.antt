-- Laws of the row of results and of the counts: which place an admission has, what stays, and that none is lost.
-- Rest on the laws of stores into a list and of counts.
use mathlib.Core.Path.{◌≡◌, refl, ◌∙◌}
use mathlib.Core.Bool.{Bool, true, false, not, false≢true}
use mathlib.Core.List.{List}
use mathlib.Core.Logic.{⊎_elim}
use Prim.Native.Nat.{ℕ, zero, suc, ◌+◌, ◌≤◌, ◌<◌}
use native.Mathlib.Omega.{arith}
use lib.ListN.{length, get_or, length-set}
use lib.Seq.{get_or-set_same, get_or-set_other}
use borrow.Author.Tests.{leb-true, leb-false, le-leb}
use Rattle.rules.specs.Limits.{both}
use Rattle.rules.specs.Refusals.{pick}
use Rattle.rules.specs.Search.{how_many}
use Rattle.rules.proofs.Tests.{decide, both_r}
use Rattle.rules.proofs.Search.{below_suc, how_many_le, how_many_hit, how_many_step, how_many_mono}
use Rattle.grid.specs.Ticks.{cells}
use Rattle.story.specs.Life.{Life, is_admission}
use Rattle.judging.specs.Record.{ticks_in}
use Rattle.judging.specs.Judged.{result_of, is_covered, is_judged, is_outlasting, judged_in, outlasting_in, results_to, results_in}

module _ (L : Life) (r : List ℕ) where
  -- ---- the row

  module _ (row : List ℕ) where
    results_to_length : (n : ℕ) → length (results_to L r row n) ≡ length row
    unfolding results_to
    results_to_length zero = refl
    results_to_length (suc a) =
        ⊎_elim (λ h. rw h (length-set (results_to L r row a) (how_many (is_judged L r) a) (result_of L r a) ∙ results_to_length a))
        (λ h. rw h (results_to_length a)) (decide (is_judged L r a))

    later_to : (n i : ℕ) → how_many (is_judged L r) n ≤ i → get_or (results_to L r row n) i 0 ≡ get_or row i 0
    unfolding results_to
    later_to zero i l = refl
    later_to (suc a) i l =
        let rest = later_to a i (omega (arith, how_many_step (is_judged L r) a)) in
        ⊎_elim
        (λ h.
        rw h (get_or-set_other (results_to L r row a) (how_many (is_judged L r) a) i (result_of L r a) 0
        (omega (arith, how_many_hit (is_judged L r) a h)) ∙ rest))
        (λ h. rw h rest) (decide (is_judged L r a))

    -- places from as many on as are judged stay
    pub later_stay : (i : ℕ) → judged_in L r ≤ i → get_or (results_in L r row) i 0 ≡ get_or row i 0
    later_stay i l = later_to (ticks_in r) i l

    place_to_lem : (n a : ℕ) → n ≤ length row → a < n → is_judged L r a ≡ true →
        get_or (results_to L r row n) (how_many (is_judged L r) a) 0 ≡ result_of L r a
    unfolding results_to
    place_to_lem zero a room l j = absurd (omega arith)
    place_to_lem (suc n) a room l j =
        ⊎_elim
        (λ b.
        let rest = place_to_lem n a (omega arith) b j in
        ⊎_elim
        (λ h.
        rw h (get_or-set_other (results_to L r row n) (how_many (is_judged L r) n) (how_many (is_judged L r) a) (result_of L r n) 0
        (omega (arith, how_many_hit (is_judged L r) a j, how_many_mono (is_judged L r) (suc a) n b)) ∙ rest))
        (λ h. rw h rest) (decide (is_judged L r n)))
        (λ e.
        rw (e, rw e at j)
        (get_or-set_same (results_to L r row n) (how_many (is_judged L r) n) (result_of L r n) 0
        (omega (arith, results_to_length n, how_many_le (is_judged L r) n))))
        (below_suc a n l)

    -- an admission that is judged has the place of as many as are judged before it
    pub place_of : (a : ℕ) → ticks_in r ≤ length row → a < ticks_in r → is_judged L r a ≡ true →
        get_or (results_in L r row) (how_many (is_judged L r) a) 0 ≡ result_of L r a
    place_of a room l j = place_to_lem (ticks_in r) a room l j

  -- ---- the order

  pub whole_before : (a b : ℕ) → a ≤ b → is_covered L r b ≡ true → is_covered L r a ≡ true
  unfolding is_covered
  whole_before a b l h =
      let fits : b + cells L.film.cap ≤ ticks_in r = leb-true (b + cells L.film.cap) (ticks_in r) h in
      le-leb (a + cells L.film.cap) (ticks_in r) (omega arith)

  -- those that outlast the record come after all that are judged
  pub in_order : (a b : ℕ) → is_judged L r a ≡ true → is_outlasting L r b ≡ true → a < b
  unfolding is_judged is_outlasting is_covered
  in_order a b j o =
      let fits : a + cells L.film.cap ≤ ticks_in r = leb-true _ _ (both_r (is_admission L a) _ j) in
      let lasts : ticks_in r < b + cells L.film.cap = leb-false _ _ (is_false _ (both_r (is_admission L b) _ o)) in omega arith
    where
      is_false : (b : Bool) → not b ≡ true → b ≡ false
      is_false true h = absurd (false≢true h)
      is_false false h = refl

  -- ---- the counts

  all_to : (n : ℕ) → how_many (is_judged L r) n + how_many (is_outlasting L r) n ≡ how_many (is_admission L) n
  unfolding how_many is_judged is_outlasting
  all_to zero = refl
  all_to (suc a) = omega (arith, all_to a, one (is_admission L a) (is_covered L r a))
    where
      one : (x y : Bool) → pick (both x y) 1 0 + pick (both x (not y)) 1 0 ≡ pick x 1 0
      one true true = refl
      one true false = refl
      one false y = refl

  -- every admission in the record is judged or outlasts it
  pub all_told : judged_in L r + outlasting_in L r ≡ how_many (is_admission L) (ticks_in r)
  all_told = all_to (ticks_in r)
