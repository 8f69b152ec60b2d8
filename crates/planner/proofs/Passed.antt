-- What the planner's answer says of its first four refusals, and what those that pass leave of it: 0, or 18.
-- Rests on the laws of listed refusals.
use mathlib.Core.Path.{◌≡◌, refl, sym, ◌∙◌}
use mathlib.Core.Bool.{Bool, true, false, not, false≢true}
use mathlib.Core.Logic.{⊎_elim}
use mathlib.Core.List.{List, [], ◌∷◌}
use Prim.Native.Nat.{ℕ}
use native.Mathlib.Omega.{arith}
use lib.Dec.{leb, ltb, eqb, lit<}
use lib.ListN.{length}
use borrow.Author.Tests.{leb-true, ltb-false, le-leb, le-ltb, eqb-true, eq-eqb, not-false}
use Rattle.rules.specs.Limits.{both, event_time_max, titles_max}
use Rattle.rules.specs.Refusals.{pick, Rule, refuse, first_hit, done, outside_limits, too_early, no_lanes, wrong_rows, past_clock}
use Rattle.rules.proofs.Tests.{decide, both_l, both_r, pick_false}
use Rattle.rules.proofs.Refusals.{hits_of, numbered, distinct, is_listed, cleared, first_hit_lem, hit_append}
use Rattle.story.specs.declared.State.{State}
use Rattle.story.specs.Kept.{state_ok}
use Rattle.sharers.specs.Sharers.{rates_ok, floors_of, shared_pool}
use Rattle.wishes.specs.Wishes.{wishes}
use Rattle.planner.specs.Moves.{falls_past}
use Rattle.planner.specs.Outcome.{moves, planner_answer, Standing}

module _ (s : State) (τ : ℕ) (rates : List ℕ) (room : ℕ) where
  -- the first four refusals
  abbrev earlier : List Rule
  earlier =
      refuse outside_limits (not (both (state_ok s) (both (leb τ event_time_max) (rates_ok rates))))
      ∷ refuse too_early (ltb τ s.last)
      ∷ refuse no_lanes (ltb (shared_pool s) (floors_of s))
      ∷ refuse wrong_rows (not (both (eqb (length rates) titles_max) (leb (length (wishes s rates)) room)))
      ∷ []

  standing : first_hit earlier ≡ 0 → Standing s τ rates room
  unfolding hits_of numbered
  standing h =
      let one = not-false (both (state_ok s) (both (leb τ event_time_max) (rates_ok rates))) (cleared earlier refl h outside_limits) in
      let ten = not-false (both (eqb (length rates) titles_max) (leb (length (wishes s rates)) room)) (cleared earlier refl h wrong_rows) in
      let rest = both_r (state_ok s) (both (leb τ event_time_max) (rates_ok rates)) one in
      record {
        ok = both_l (state_ok s) (both (leb τ event_time_max) (rates_ok rates)) one;
        clock = leb-true τ event_time_max (both_l (leb τ event_time_max) (rates_ok rates) rest);
        rated = both_r (leb τ event_time_max) (rates_ok rates) rest;
        late = ltb-false τ s.last (cleared earlier refl h too_early);
        floors = ltb-false (shared_pool s) (floors_of s) (cleared earlier refl h no_lanes);
        sixteen = eqb-true (length rates) titles_max (both_l (eqb (length rates) titles_max) (leb (length (wishes s rates)) room) ten);
        places = leb-true (length (wishes s rates)) room (both_r (eqb (length rates) titles_max) (leb (length (wishes s rates)) room) ten);
      }

  -- where they pass, the clock alone is left
  pub left_answer : Standing s τ rates room → planner_answer s τ rates room ≡ pick (falls_past (moves s τ rates)) past_clock done
  unfolding planner_answer first_hit
  left_answer st =
      rw (
        st.ok,
        le-leb τ event_time_max st.clock,
        st.rated,
        le-ltb τ s.last st.late,
        le-ltb (shared_pool s) (floors_of s) st.floors,
        eq-eqb (length rates) titles_max st.sixteen,
        le-leb (length (wishes s rates)) room st.places,
      )
      refl

  -- an answer that is none of theirs says that they pass
  by_parts : planner_answer s τ rates room
      ≡ pick (eqb (first_hit earlier) 0) (first_hit (refuse past_clock (falls_past (moves s τ rates)) ∷ [])) (first_hit earlier)
  unfolding planner_answer numbered
  by_parts = hit_append earlier (refuse past_clock (falls_past (moves s τ rates)) ∷ []) refl

  passed : (n : ℕ) → (first_hit earlier ≡ n → first_hit earlier ≡ 0) → planner_answer s τ rates room ≡ n → Standing s τ rates room
  passed n other h =
      ⊎_elim (λ x. standing (eqb-true (first_hit earlier) 0 x))
      (λ x.
      let own = pick_false (eqb (first_hit earlier) 0) (first_hit (refuse past_clock (falls_past (moves s τ rates)) ∷ [])) (first_hit earlier) x in
      standing (other (sym own ∙ sym by_parts ∙ h)))
      (decide (eqb (first_hit earlier) 0))

  pub standing_done : planner_answer s τ rates room ≡ done → Standing s τ rates room
  standing_done = passed done (λ e. e)

  pub standing_past : planner_answer s τ rates room ≡ past_clock → Standing s τ rates room
  unfolding hits_of distinct is_listed
  standing_past = passed past_clock (λ e. absurd (false≢true (first_hit_lem earlier refl past_clock (lit< tt) e).0))

  -- so 0 says that no event falls past the clock, and 18 that one does
  pub in_clock : planner_answer s τ rates room ≡ done → falls_past (moves s τ rates) ≡ false
  in_clock h = clock_done (falls_past (moves s τ rates)) (sym (left_answer (standing_done h)) ∙ h)
    where
      clock_done : (b : Bool) → pick b past_clock done ≡ done → b ≡ false
      clock_done true e = absurd (omega arith)
      clock_done false e = refl

  pub past_clock_lem : planner_answer s τ rates room ≡ past_clock → falls_past (moves s τ rates) ≡ true
  past_clock_lem h = clock_past (falls_past (moves s τ rates)) (sym (left_answer (standing_past h)) ∙ h)
    where
      clock_past : (b : Bool) → pick b past_clock done ≡ past_clock → b ≡ true
      clock_past true e = refl
      clock_past false e = absurd (omega arith)
