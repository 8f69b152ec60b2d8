-- The planner's answer part by part, and what the call settles beside a refusal and beside a list.
-- Rests on the laws of an answer by listed refusals.
use mathlib.Core.Path.{◌≡◌, refl, sym, ap, ◌∙◌}
use mathlib.Core.Bool.{true, false, not}
use mathlib.Core.List.{List, [], ◌∷◌}
use Prim.Native.Nat.{ℕ, ◌≤◌, ◌<◌}
use lib.Dec.{leb, eqb}
use lib.ListN.{length}
use borrow.Author.Tests.{leb-true, ltb-false, le-leb, lt-leb, eq-eqb, ne_eqb, not-false}
use Rattle.rules.specs.Limits.{both, event_time_max, titles_max}
use Rattle.rules.specs.Refusals.{pick, Rule, refuse, first_hit, outside_limits, no_lanes, wrong_rows, past_clock}
use Rattle.rules.proofs.Tests.{both_l, both_r}
use Rattle.rules.proofs.Refusals.{hits_of, numbered, cleared, hit_append}
use Rattle.story.specs.declared.State.{State}
use Rattle.story.specs.Kept.{state_ok}
use Rattle.sharers.specs.Sharers.{rates_ok, floors_of, shared_pool}
use Rattle.wishes.specs.Wishes.{wishes}
use Rattle.planner.specs.Moves.{Move, falls_past}
use Rattle.planner.specs.Outcome.{moves, planner_answer, given, room_of, row_from, Answered}
use Rattle.planner.specs.inner.Steps.{question_ok, standing_list, standing_answer}

-- what a question has that is not refused before its wishes
pub record Stands (s : State) (τ : ℕ) (rates : List ℕ) : Type 0 where
  pub state : state_ok s ≡ true
  pub time : τ ≤ event_time_max
  pub rated : rates_ok rates ≡ true
  pub floors : floors_of s ≤ shared_pool s

module _ (s : State) (τ : ℕ) (rates : List ℕ) where
  -- of the numbers within their limits, the state's
  pub numbers_state : question_ok s τ rates ≡ true → state_ok s ≡ true
  unfolding question_ok
  numbers_state ok = both_l (state_ok s) (both (leb τ event_time_max) (rates_ok rates)) ok

  pub stands : standing_answer s τ rates ≡ 0 → Stands s τ rates
  unfolding standing_answer question_ok hits_of numbered
  stands none =
      let ok : question_ok s τ rates ≡ true =
      not-false (question_ok s τ rates) (cleared (standing_list s τ rates) refl none outside_limits) in
      record {
        state = numbers_state ok;
        time = leb-true τ event_time_max (search (both_l, both_r));
        rated = search (both_l, both_r);
        floors = ltb-false (shared_pool s) (floors_of s) (cleared (standing_list s τ rates) refl none no_lanes);
      }

  -- the rules behind: 10 18
  abbrev rows_rules : ℕ → List Rule
  rows_rules room =
      refuse wrong_rows (not (both (eqb (length rates) titles_max) (leb (length (wishes s rates)) room)))
      ∷ refuse past_clock (falls_past (moves s τ rates))
      ∷ []

  in_two : (room : ℕ) →
      planner_answer s τ rates room
      ≡ pick (eqb (standing_answer s τ rates) 0) (first_hit (rows_rules room)) (standing_answer s τ rates)
  unfolding planner_answer standing_answer question_ok numbered
  in_two room = hit_append (standing_list s τ rates) (rows_rules room) refl

  pub refused_before : (room : ℕ) → (standing_answer s τ rates ≡ 0 → ⊥) → planner_answer s τ rates room ≡ standing_answer s τ rates
  refused_before room some = rw (ne_eqb (standing_answer s τ rates) 0 some) at (in_two room)

  -- a question that stands
  module _ (room : ℕ) (none : standing_answer s τ rates ≡ 0) where
    then_rows : planner_answer s τ rates room ≡ first_hit (rows_rules room)
    then_rows = rw (eq-eqb (standing_answer s τ rates) 0 none) at (in_two room)

    pub not_sixteen : (length rates ≡ titles_max → ⊥) → planner_answer s τ rates room ≡ wrong_rows
    unfolding first_hit
    not_sixteen other = then_rows ∙ simp (ne_eqb (length rates) titles_max other)

    pub no_room_lem : length rates ≡ titles_max → room < length (wishes s rates) → planner_answer s τ rates room ≡ wrong_rows
    unfolding first_hit
    no_room_lem sixteen short =
        then_rows ∙ simp (eq-eqb (length rates) titles_max sixteen, lt-leb (length (wishes s rates)) room short)

    pub past_clock_lem : length rates ≡ titles_max → length (wishes s rates) ≤ room → falls_past (moves s τ rates) ≡ true →
        planner_answer s τ rates room ≡ past_clock
    unfolding first_hit
    past_clock_lem sixteen fit past =
        then_rows ∙ simp (eq-eqb (length rates) titles_max sixteen, le-leb (length (wishes s rates)) room fit, past)

    pub all_listed : length rates ≡ titles_max → length (wishes s rates) ≤ room → falls_past (moves s τ rates) ≡ false →
        planner_answer s τ rates room ≡ 0
    unfolding first_hit
    all_listed sixteen fit past =
        then_rows ∙ simp (eq-eqb (length rates) titles_max sixteen, le-leb (length (wishes s rates)) room fit, past)

  -- ---- what is settled

  module _ (is ts ks : List ℕ) where
    none_given : (planner_answer s τ rates (room_of is ts ks) ≡ 0 → ⊥) → given s τ rates (room_of is ts ks) ≡ []
    unfolding given
    none_given some = rw (ne_eqb (planner_answer s τ rates (room_of is ts ks)) 0 some) refl

    all_given : planner_answer s τ rates (room_of is ts ks) ≡ 0 → given s τ rates (room_of is ts ks) ≡ moves s τ rates
    unfolding given
    all_given none = rw (eq-eqb (planner_answer s τ rates (room_of is ts ks)) 0 none) refl

    -- a refusal lists nothing and leaves the rows
    pub refused_answered : (r n : ℕ) → r ≡ planner_answer s τ rates (room_of is ts ks) → n ≡ 0 → (r ≡ 0 → ⊥) →
        Answered s τ rates is ts ks r n is ts ks
    refused_answered r n e z some =
        let none = sym (none_given (λ x. some (e ∙ x))) in
        record {
          answer = e;
          many = z ∙ ap (λ (ms : List Move). length ms) none;
          ids = ap (λ (ms : List Move). row_from (λ m. m.title) ms is) none;
          times = ap (λ (ms : List Move). row_from (λ m. m.time) ms ts) none;
          counts = ap (λ (ms : List Move). row_from (λ m. m.count) ms ks) none;
        }

    -- else all is listed
    pub listed_answered : (n : ℕ) (is' ts' ks' : List ℕ) → planner_answer s τ rates (room_of is ts ks) ≡ 0 →
        n ≡ length (moves s τ rates) → is' ≡ row_from (λ m. m.title) (moves s τ rates) is →
        ts' ≡ row_from (λ m. m.time) (moves s τ rates) ts → ks' ≡ row_from (λ m. m.count) (moves s τ rates) ks →
        Answered s τ rates is ts ks 0 n is' ts' ks'
    listed_answered n is' ts' ks' e many ids times counts =
        let all = sym (all_given e) in
        record {
          answer = sym e;
          many = many ∙ ap (λ (ms : List Move). length ms) all;
          ids = ids ∙ ap (λ (ms : List Move). row_from (λ m. m.title) ms is) all;
          times = times ∙ ap (λ (ms : List Move). row_from (λ m. m.time) ms ts) all;
          counts = counts ∙ ap (λ (ms : List Move). row_from (λ m. m.count) ms ks) all;
        }
