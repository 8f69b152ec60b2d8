-- What a result says of the record: 65535 just where every cell of film is shown in time, else the lowest that is not.
-- Rests on the laws of searches.
use mathlib.Core.Path.{◌≡◌, sym, ap, ◌∙◌}
use mathlib.Core.Bool.{true, false, not, false≢true}
use mathlib.Core.List.{List}
use mathlib.Core.Logic.{⊎_elim}
use Prim.Native.Nat.{ℕ, ◌^◌, ◌≤◌, ◌<◌}
use native.Mathlib.Omega.{arith}
use lib.Dec.{ltb, eqb}
use lib.Pow.{pow_mono}
use borrow.Author.Tests.{lt-ltb, ltb-true, eq-eqb, eqb-true}
use Rattle.rules.specs.Limits.{count_max}
use Rattle.rules.specs.Search.{first}
use Rattle.rules.proofs.Tests.{decide, both_l, both_r, both_in, fails, pick_false}
use Rattle.rules.proofs.Search.{first_hit_lem, first_before, first_least}
use Rattle.grid.specs.Ticks.{cells}
use Rattle.story.specs.Life.{Life, is_film}
use Rattle.judging.specs.Record.{nothing_seen, lowest, is_in_time}
use Rattle.judging.specs.Judged.{is_missed, result_of, is_judged, is_played, HasAll}
use Rattle.judging.proofs.Walked.{lowest_none}

module _ (L : Life) (r : List ℕ) (a : ℕ) where
  none_missed : HasAll L r a → (c : ℕ) → c < cells L.film.cap → is_missed L r a c ≡ true → ⊥
  unfolding is_missed
  none_missed all c l h =
      false≢true (sym (ap not (all c l (both_l (is_film L c) (not (is_in_time r a c)) h))) ∙ both_r (is_film L c) (not (is_in_time r a c)) h)

  pub plays_through : HasAll L r a → result_of L r a ≡ nothing_seen
  unfolding result_of
  plays_through all = lowest_none (is_missed L r a) (cells L.film.cap) (λ c l. fails (is_missed L r a c) (none_missed all c l))

  -- a result that is a cell is one that was missed, and the lowest
  pub result_missed : (result_of L r a ≡ nothing_seen → ⊥) →
      (result_of L r a < cells L.film.cap) × ((is_missed L r a (result_of L r a) ≡ true)
      × ((c : ℕ) → c < result_of L r a → is_missed L r a c ≡ false))
  unfolding result_of lowest
  result_missed some =
      ⊎_elim
      (λ b. rw b (let low = ltb-true (first (is_missed L r a) (cells L.film.cap)) (cells L.film.cap) b in
      (low, (first_hit_lem (is_missed L r a) (cells L.film.cap) low, λ c l. first_before (is_missed L r a) (cells L.film.cap) c l))))
      (λ n. absurd (some (pick_false _ _ nothing_seen n)))
      (decide (ltb (first (is_missed L r a) (cells L.film.cap)) (cells L.film.cap)))

  module _ (high : L.film.cap ≤ count_max) where
    -- a cell's number is never 65535
    missed_result : (c : ℕ) → c < cells L.film.cap → is_missed L r a c ≡ true → result_of L r a < nothing_seen
    unfolding result_of lowest
    missed_result c l h =
        let most : 2 ^ L.film.cap ≤ 2 ^ count_max = pow_mono high in
        let low : first (is_missed L r a) (cells L.film.cap) ≤ c = first_least (is_missed L r a) (cells L.film.cap) c h in
        rw (lt-ltb (first (is_missed L r a) (cells L.film.cap)) (cells L.film.cap) (omega arith)) (omega arith)

    pub played_has_all : result_of L r a ≡ nothing_seen → HasAll L r a
    unfolding is_missed
    played_has_all e c l film =
        ⊎_elim (λ t. t) (λ f. absurd (omega (arith, missed_result c l (both_in (is_film L c) (not (is_in_time r a c)) film (ap not f)))))
        (decide (is_in_time r a c))

  -- played through, taken apart and put together
  pub played_in_lem : is_judged L r a ≡ true → result_of L r a ≡ nothing_seen → is_played L r a ≡ true
  unfolding is_played
  played_in_lem j e = both_in (is_judged L r a) (eqb (result_of L r a) nothing_seen) j (eq-eqb (result_of L r a) nothing_seen e)

  pub played_out : is_played L r a ≡ true → (is_judged L r a ≡ true) × (result_of L r a ≡ nothing_seen)
  unfolding is_played
  played_out h =
      (both_l (is_judged L r a) (eqb (result_of L r a) nothing_seen) h, eqb-true (result_of L r a) nothing_seen (both_r (is_judged L r a) (eqb (result_of L r a) nothing_seen) h))
