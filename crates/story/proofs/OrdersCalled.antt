-- Two events at one moment on titles of different ids, by the calls on a reached state (02, 14): they are answered as the sequence
-- says of the two orders, the lanes that an event takes are counted from what status shows, and where both orders are accepted they
-- leave one state.
-- Rests on `told`, and on what the sequence says of the two orders.
use mathlib.Core.Path.{◌≡◌, sym, ap, ◌∙◌}
use mathlib.Core.Logic.{◌⊎◌, inl, inr, ⊎_elim}
use mathlib.Core.List.{List, [], ◌∷◌, ◌++◌}
use Prim.Native.Nat.{ℕ, ◌≤◌}
use native.Mathlib.Omega.{arith}
use lib.Dec.{eqb}
use borrow.Author.Tests.{eq-eqb, ne_eqb}
use Rattle.rules.specs.Refusals.{no_lanes}
use Rattle.rules.proofs.Tests.{pick_false}
use Rattle.story.specs.declared.State.{State}
use Rattle.story.specs.Next.{call_next}
use Rattle.story.specs.Calls.{status_count}
use Rattle.story.specs.declared.Event.{Event}
use Rattle.story.specs.Story.{life_of, last_time, count_in, answer, taking, Accepted, more, takes_lanes}
use Rattle.story.specs.Story.{OneMoment, BothAccepted, NineAfter}
use Rattle.story.specs.Runs.{answered, called, state_after, lanes_of, Reached, BothCalled, CallWantsLanes, CallNineAfter}
use Rattle.story.proofs.Runs.{lanes_limit, told_answer, told_call}
use Rattle.story.proofs.Passed.{in_order}
use Rattle.story.proofs.Questions.{status_count_told}
use Rattle.story.proofs.Reached.{run_accepted, run_told, run_state}
use Rattle.story.proofs.OneMoment.{other_order, room_for_one_of_two, alike_accepted, either_way, both_called, one_state}

module _ (pool : ℕ) (es : List Event) (s : State) (run : Reached pool es s) where
  acc : Accepted (lanes_of pool) es
  acc = run_accepted pool es s run

  -- what the state answers to an event, and to a second one behind it
  says : (e : Event) → answered s e ≡ answer (lanes_of pool) es e
  says = told_answer (lanes_of pool) (lanes_limit pool) es s (run_told pool es s run)

  says_then : (e f : Event) → answer (lanes_of pool) es e ≡ 0 →
      answered (called s e) f ≡ answer (lanes_of pool) (e ∷ es) f
  says_then e f done =
      let told = told_call (lanes_of pool) (lanes_limit pool) es s (run_told pool es s run) e in
      rw (eq-eqb (answer (lanes_of pool) es e) 0 done) at
      (told_answer (lanes_of pool) (lanes_limit pool) (taking (lanes_of pool) es e) (called s e) told f)

  both_told : (e f : Event) → BothCalled s e f → BothAccepted (lanes_of pool) es e f
  both_told e f both =
      let done : answer (lanes_of pool) es e ≡ 0 = sym (says e) ∙ both.first in
      record { first = done; second = sym (says_then e f done) ∙ both.second }

  -- the sequence and the calls accept the same two
  pub both_as_called : (e f : Event) → BothAccepted (lanes_of pool) es e f → BothCalled s e f
  both_as_called e f both =
      record { first = says e ∙ both.first; second = says_then e f both.first ∙ both.second }

  -- the count from which status tells whether an event takes lanes
  counted : (before : List Event) (e : Event) → last_time es ≤ e.time → answer (lanes_of pool) before e ≡ 0 →
      status_count s e.title ≡ count_in (life_of es e.title) e.time
  counted before e late h =
      let id = (in_order (lanes_of pool) before e.title e.time e.act h).id in
      status_count_told (lanes_of pool) (lanes_limit pool) es s (run_told pool es s run) e.title e.time (omega arith) late

  refused_stays : (e : Event) → answered s e ≡ no_lanes → called s e ≡ s
  refused_stays e h =
      pick_false (eqb (answered s e) 0) (call_next s e.title e.time e.act) s
      (ne_eqb (answered s e) 0 (λ x. absurd (omega (arith, h, x))))

  pub other_order_called : (e f : Event) → OneMoment e f → BothCalled s e f → BothCalled s f e ⊎ CallWantsLanes s e f
  other_order_called e f at both =
      let told = both_told e f both in
      let late : last_time es ≤ e.time = (in_order (lanes_of pool) es e.title e.time e.act told.first).late in
      ⊎_elim (λ other. inl (both_as_called f e other))
      (λ w.
      let nine : answered s f ≡ no_lanes = says f ∙ w.nine in
      inr
      (record {
        nine = nine;
        other = rw (refused_stays f nine) both.first;
        takes = ap (takes_lanes f.act) (counted (e ∷ es) f (omega (arith, at.same_time)) told.second) ∙ w.takes;
        takes_none = ap (takes_lanes e.act) (counted es e late told.first) ∙ w.takes_none;
      }))
      (other_order (lanes_of pool) (lanes_limit pool) es acc e f at told)

  nine_called : (e f : Event) → answer (lanes_of pool) es f ≡ 0 → NineAfter (lanes_of pool) es e f → CallNineAfter s e f
  nine_called e f alone w =
      let late : last_time es ≤ f.time = (in_order (lanes_of pool) es f.title f.time f.act alone).late in
      record {
        first = says e ∙ w.first;
        nine = says_then e f w.first ∙ w.nine;
        takes = ap (takes_lanes f.act) (counted es f late alone) ∙ w.takes;
      }

  pub room_for_one_of_calls : (e f : Event) → OneMoment e f → answered s e ≡ 0 → answered s f ≡ 0 →
      (BothCalled s e f → ⊥) → CallNineAfter s e f × CallNineAfter s f e
  room_for_one_of_calls e f at one other not_both =
      let e-alone : answer (lanes_of pool) es e ≡ 0 = sym (says e) ∙ one in
      let f-alone : answer (lanes_of pool) es f ≡ 0 = sym (says f) ∙ other in
      let nines =
      room_for_one_of_two (lanes_of pool) (lanes_limit pool) es acc e f at e-alone f-alone (λ both. not_both (both_as_called e f both)) in
      (nine_called e f f-alone nines.0, nine_called f e e-alone nines.1)

  -- where both are accepted in both orders the calls leave one state, and so do any that follow
  pub one_state_called : (e f : Event) → OneMoment e f → BothCalled s e f → BothCalled s f e →
      called (called s e) f ≡ called (called s f) e
  one_state_called e f at one other = both_called s e f one ∙ one_state s e f at ∙ sym (both_called s f e other)

  pub one_state_later : (e f : Event) → OneMoment e f → BothCalled s e f → BothCalled s f e → (cs : List Event) →
      state_after pool (cs ++ f ∷ e ∷ es) ≡ state_after pool (cs ++ e ∷ f ∷ es)
  unfolding state_after
  one_state_later e f at one other [] =
      let alone : s ≡ state_after pool es = run_state pool es s run in
      ap (λ u. called (called u e) f) (sym alone)
      ∙ one_state_called e f at one other
      ∙ ap (λ u. called (called u f) e) alone
  one_state_later e f at one other (c ∷ cs) = ap (λ u. called u c) (one_state_later e f at one other cs)

  -- and the sequence accepts after one order what it accepts after the other
  pub accepted_later : (e f : Event) → OneMoment e f → BothAccepted (lanes_of pool) es f e → (new : List Event) →
      Accepted (lanes_of pool) (new ++ f ∷ e ∷ es) → Accepted (lanes_of pool) (new ++ e ∷ f ∷ es)
  accepted_later e f at other new =
      alike_accepted (lanes_of pool) new (f ∷ e ∷ es) (e ∷ f ∷ es) (either_way e f es at)
      (more (more acc other.first) other.second)
