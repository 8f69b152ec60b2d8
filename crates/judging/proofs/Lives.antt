-- A life with the title's numbers and the marked admissions has the results and the counts that the walks find.
-- Rests on the laws of the walks.
use mathlib.Core.Path.{◌≡◌, refl, sym, ap, ◌∙◌}
use mathlib.Core.Bool.{Bool, true, false, not}
use mathlib.Core.List.{List}
use mathlib.Core.Logic.{⊎_elim}
use Prim.Native.Nat.{ℕ, zero, suc, ◌+◌, ◌^◌, ◌≤◌, ◌<◌}
use native.Mathlib.Omega.{arith}
use lib.Dec.{leb, eqb}
use lib.ListN.{get_or, set}
use borrow.Author.Tests.{leb-true}
use Rattle.rules.specs.Limits.{both}
use Rattle.rules.specs.Refusals.{pick}
use Rattle.rules.specs.Search.{how_many}
use Rattle.rules.proofs.Tests.{decide, both_r}
use Rattle.scheme.specs.Scheme.{padded_kind, tick_for, film_in}
use Rattle.story.specs.declared.Film.{Film}
use Rattle.story.specs.declared.Title.{Title}
use Rattle.story.specs.Life.{Life, is_film, is_admission}
use Rattle.judging.specs.declared.Counts.{Counts}
use Rattle.judging.specs.Record.{nothing_seen, lowest, ticks_in, is_in_time}
use Rattle.judging.specs.Judged.{is_missed, result_of, is_covered, is_judged, is_outlasting, is_played, results_to}
use Rattle.judging.specs.Judge.{MarkedBy, Judges}
use Rattle.judging.specs.inner.Walk.{is_unseen, Results, result_put, counts_after, row_to, counts_to, TellsResults}
use Rattle.judging.proofs.Walked.{lowest_ext}
use Rattle.judging.proofs.Told.{counts_same}

pub mark_read : (b : Bool) → eqb (pick b 1 0) 1 ≡ b
mark_read true = refl
mark_read false = refl

module _ (t : Title) (r marks : List ℕ) (L : Life) (M : MarkedBy t marks (ticks_in r) L) where
  -- a mark is 1 just where the life has an admission
  admission_is : (a : ℕ) → a < ticks_in r → eqb (get_or marks a 0) 1 ≡ is_admission L a
  admission_is a l = ap (λ x. eqb x 1) (M.mark a l) ∙ mark_read (is_admission L a)

  module _ (m τ : ℕ) (cut : m ≡ 2 ^ t.film.cap) (timed : τ ≡ tick_for padded_kind t.film.length t.film.floor t.film.cap) where
    whole_is : (a : ℕ) → leb (a + m) (ticks_in r) ≡ is_covered L r a
    unfolding is_covered
    whole_is a = ap (λ k. leb (a + k) (ticks_in r)) (cut ∙ sym (ap (λ (f : Film). 2 ^ f.cap) M.same_film))

    film_is : (c : ℕ) → film_in t.film.length τ c ≡ is_film L c
    film_is c = rw (timed, M.same_film, M.padded) refl

    unseen_missed : (a c : ℕ) → is_unseen t.film.length τ r a c ≡ is_missed L r a c
    unfolding is_unseen is_missed
    unseen_missed a c = ap (λ b. both b (not (is_in_time r a c))) (film_is c)

    result_is : (a : ℕ) → lowest (is_unseen t.film.length τ r a) m ≡ result_of L r a
    unfolding result_of
    result_is a =
        lowest_ext (is_unseen t.film.length τ r a) (is_missed L r a) m (λ c l. unseen_missed a c)
        ∙ ap (lowest (is_missed L r a)) (cut ∙ sym (ap (λ (f : Film). 2 ^ f.cap) M.same_film))

    module _ (found : List ℕ) (R : Results r m t.film.length τ 0 found) where
      judged_is : (a : ℕ) → a < ticks_in r → both (eqb (get_or marks a 0) 1) (leb (a + m) (ticks_in r)) ≡ is_judged L r a
      unfolding is_judged
      judged_is a l = rw (admission_is a l, whole_is a) refl

      outlast_is : (a : ℕ) → a < ticks_in r →
          both (eqb (get_or marks a 0) 1) (not (leb (a + m) (ticks_in r))) ≡ is_outlasting L r a
      unfolding is_outlasting
      outlast_is a l = rw (admission_is a l, whole_is a) refl

      -- what is found at an admission that is judged
      found_is : (a : ℕ) → a < ticks_in r → is_judged L r a ≡ true → get_or found a 0 ≡ result_of L r a
      unfolding is_judged
      found_is a l h =
          R.result a (omega arith) (leb-true _ _ (whole_is a ∙ both_r (is_admission L a) (is_covered L r a) h)) l ∙ result_is a

      played_is : (a : ℕ) → a < ticks_in r →
          both (both (eqb (get_or marks a 0) 1) (leb (a + m) (ticks_in r))) (eqb (get_or found a 0) nothing_seen) ≡ is_played L r a
      unfolding is_played
      played_is a l =
          ap (λ b. both b (eqb (get_or found a 0) nothing_seen)) (judged_is a l)
          ∙ ⊎_elim (λ h. ap (λ x. both (is_judged L r a) (eqb x nothing_seen)) (found_is a l h)) (λ h. rw h refl)
          (decide (is_judged L r a))

      counts_are : (a : ℕ) → a ≤ ticks_in r →
          counts_to found marks m (ticks_in r) a
          ≡ record { judged = how_many (is_judged L r) a; played = how_many (is_played L r) a; outlast = how_many (is_outlasting L r) a }
      unfolding counts_to counts_after how_many
      counts_are zero l = refl
      counts_are (suc a) l =
          rw (counts_are a (omega arith))
          (counts_same
          (ap (λ b. how_many (is_judged L r) a + pick b 1 0) (judged_is a (omega arith)))
          (ap (λ b. how_many (is_played L r) a + pick b 1 0) (played_is a (omega arith)))
          (ap (λ b. how_many (is_outlasting L r) a + pick b 1 0) (outlast_is a (omega arith))))

      row_is : (row : List ℕ) (a : ℕ) → a ≤ ticks_in r → row_to found marks m (ticks_in r) row a ≡ results_to L r row a
      unfolding row_to result_put results_to
      row_is row zero l = refl
      row_is row (suc a) l =
          rw (row_is row a (omega arith), counts_are a (omega arith), judged_is a (omega arith))
          (⊎_elim (λ h. ap (λ x. pick (is_judged L r a) (set (results_to L r row a) (how_many (is_judged L r) a) x) (results_to L r row a)) (found_is a (omega arith) h)) (λ h. rw h refl)
          (decide (is_judged L r a)))

-- what the two walks come to
pub judges : (t : Title) (r marks row after : List ℕ) (w : Counts) (m τ : ℕ) (found : List ℕ) → m ≡ 2 ^ t.film.cap →
    τ ≡ tick_for padded_kind t.film.length t.film.floor t.film.cap → Results r m t.film.length τ 0 found →
    TellsResults found marks m (ticks_in r) row after w → Judges t r marks row after w
judges t r marks row after w m τ found cut timed R T =
    record {
      results = λ L M. T.left ∙ row_is t r marks L M m τ cut timed found R row (ticks_in r) (omega arith);
      counts = λ L M. T.counts ∙ counts_are t r marks L M m τ cut timed found R (ticks_in r) (omega arith);
    }
