-- The answers of an event on a row that was tested, as its code meets them: by its numbers, the clock, its title, or the lanes; and what a
-- row that is out of its limits is answered. Rests on the scheduler's laws of the refusals' order.
use mathlib.Core.Path.{◌≡◌, refl, sym, ap, ◌∙◌}
use mathlib.Core.Bool.{Bool, true, false}
use mathlib.Core.Logic.{⊎_elim}
use mathlib.Core.List.{List}
use Prim.Native.Nat.{ℕ, ◌+◌, ◌≤◌, ◌<◌}
use native.Mathlib.Omega.{arith}
use lib.Dec.{leb, ltb, eqb}
use lib.ListN.{length}
use borrow.Author.Tests.{lt-ltb, le-ltb, eq-eqb, ne_eqb}
use Rattle.rules.specs.Limits.{both, id_max, event_time_max, titles_max}
use Rattle.rules.specs.Refusals.{pick, first_hit, no_lanes, outside_limits, wrong_rows}
use Rattle.rules.proofs.Tests.{decide, both_l, both_r}
use Rattle.story.specs.declared.Title.{Title}
use Rattle.story.specs.declared.State.{State}
use Rattle.story.specs.declared.Act.{Act}
use Rattle.story.specs.declared.Event.{Event}
use Rattle.story.specs.Kept.{state_ok, title_at, title_held, lanes_held}
use Rattle.story.specs.Story.{event, act_limits, sets_count}
use Rattle.story.specs.Next.{with_title, call_next}
use Rattle.story.specs.Calls.{event_ok, call_answer}
use Rattle.story.specs.Runs.{answered}
use Rattle.title_verdicts.specs.Titled.{title_rules}
use Rattle.verdicts.specs.Before.{first_answer}
use Rattle.verdicts.proofs.Event.{out_by_numbers, out_by_title}
use Rattle.scheduler.specs.Outcomes.{settled_answer}
use Rattle.scheduler.proofs.Settled.{in_two}
use Rattle.agent.specs.declared.Agent.{Agent}
use Rattle.agent_rows.specs.Layout.{row_length, titles_at}
use Rattle.agent_rows.specs.Packed.{packed, unpacked, row_sound, with_state}
use Rattle.agent_rows.specs.Others.{others_held}
use Rattle.agent_rows.proofs.Inverse.{titles_length}
use Rattle.agent_rows.proofs.Lanes.{with_title_held}
use Rattle.row_calls.specs.Answers.{row_event, row_after_event}
use Rattle.row_calls.specs.inner.Steps.{Tested}

-- ---- the lanes

-- more lanes than the pool has would be held, or not
module _ (r : List ℕ) (i τ : ℕ) (next : Title) (own : ℕ) (l : i ≤ id_max) (is-own : own ≡ title_held next τ) where
  held_next : lanes_held (with_title (unpacked r).state i next τ) τ ≡ others_held (unpacked r).state i τ + own
  held_next = rw is-own (with_title_held (unpacked r).state i next τ τ (titles_length r titles_at titles_max) (omega arith))

  pub too_few_lem : (unpacked r).state.pool < others_held (unpacked r).state i τ + own →
      no_lanes ≡ settled_answer true (with_title (unpacked r).state i next τ) τ
  unfolding settled_answer first_hit
  too_few_lem short = rw (held_next, lt-ltb _ _ short) refl

  pub enough : others_held (unpacked r).state i τ + own ≤ (unpacked r).state.pool →
      0 ≡ settled_answer true (with_title (unpacked r).state i next τ) τ
  unfolding settled_answer first_hit
  enough room = rw (held_next, le-ltb _ _ room) refl

pub asks_none : (s : State) (τ : ℕ) → 0 ≡ settled_answer false s τ
unfolding settled_answer first_hit
asks_none s τ = refl

-- ---- an event's answer by its first part

module _ (s : State) (i τ : ℕ) (a : Act) (first : ℕ) (is_first : first ≡ first_answer s (event i τ a)) where
  -- nothing in the first part hits: the lanes decide
  pub by_lanes : first ≡ 0 → settled_answer (sets_count a) (call_next s i τ a) τ ≡ call_answer s i τ a
  by_lanes none = sym (rw (← is_first, eq-eqb first 0 none) at (in_two s i τ a))

  -- a refusal there is the answer
  pub by_first : (first ≡ 0 → ⊥) → first ≡ call_answer s i τ a
  by_first some = sym (rw (← is_first, ne_eqb first 0 some) at (in_two s i τ a))

-- what its title answers an event in its time is the first part
pub by_title : (s : State) (i τ : ℕ) (a : Act) (t : Title) (n : ℕ) → n ≡ first_hit (title_rules t τ a) → t ≡ title_at s i →
    both (event_ok s i τ) (act_limits a true) ≡ true → ltb τ s.last ≡ false → n ≡ first_answer s (event i τ a)
by_title s i τ a t n e is numbers late = e ∙ ap (λ (t : Title). first_hit (title_rules t τ a)) is ∙ out_by_title s i τ a numbers late

-- the numbers of an event on a row that was tested are those of the event itself
pub numbers_of_lem : (s : State) (i τ : ℕ) (a : Act) → state_ok s ≡ true →
    both (both (leb i id_max) (leb τ event_time_max)) (act_limits a true) ≡ both (event_ok s i τ) (act_limits a true)
numbers_of_lem s i τ a ok = rw ok refl

-- ---- a row that is not within its limits

pub event_out_lem : (s : State) (e : Event) → state_ok s ≡ false → answered s e ≡ outside_limits
event_out_lem s e out =
    sym (by_first s e.title e.time e.act outside_limits (out_by_numbers s e.title e.time e.act (rw out refl)) (λ z. omega arith))

pub row_out : (r : List ℕ) (answer : ℕ) → both (row_sound r) (state_ok (unpacked r).state) ≡ false →
    (state_ok (unpacked r).state ≡ false → answer ≡ outside_limits) → outside_limits ≡ pick (row_sound r) answer outside_limits
row_out r answer out bad =
    ⊎_elim (λ sound. rw sound (sym (bad (rw sound at out)))) (λ unsound. rw unsound refl) (decide (row_sound r))

-- a row of the right length, whose numbers were tested
pub tested_row : (r : List ℕ) → length r ≡ row_length → both (row_sound r) (state_ok (unpacked r).state) ≡ true → Tested r
tested_row r long ok =
    record {
      long = long;
      sound = both_l (row_sound r) (state_ok (unpacked r).state) ok;
      ok = both_r (row_sound r) (state_ok (unpacked r).state) ok;
    }

-- ---- an event on any row

-- a value picked by a test, and again by the same test
pub picked_twice : {A B : Type 0} (b : Bool) (f : A → B) (x y : A) (z : B) → pick b (f x) z ≡ pick b (f (pick b x y)) z
picked_twice true f x y z = refl
picked_twice false f x y z = refl

module _ (r : List ℕ) (e : Event) where
  -- a row of another length,
  pub event_elsewhere : (length r ≡ row_length → ⊥) → (wrong_rows ≡ row_event r e) × (r ≡ row_after_event r e)
  unfolding row_event row_after_event
  event_elsewhere other = rw (ne_eqb (length r) row_length other) (refl, refl)

  -- one that is out of its limits,
  pub event_row_out : length r ≡ row_length → both (row_sound r) (state_ok (unpacked r).state) ≡ false →
      (outside_limits ≡ row_event r e) × (r ≡ row_after_event r e)
  unfolding row_event row_after_event
  event_row_out long out =
      let one : outside_limits ≡ pick (row_sound r) (answered (unpacked r).state e) outside_limits =
      row_out r (answered (unpacked r).state e) out (event_out_lem (unpacked r).state e) in
      rw (eq-eqb (length r) row_length long, ← one) (refl, refl)

  -- and one that was tested
  pub event_row_in : Tested r → (a : ℕ) (x : List ℕ) → a ≡ answered (unpacked r).state e →
      x ≡ pick (eqb a 0) (packed (with_state (unpacked r) (call_next (unpacked r).state e.title e.time e.act))) r →
      (a ≡ row_event r e) × (x ≡ row_after_event r e)
  unfolding row_event row_after_event
  event_row_in tested a x is-a is_x =
      let g : Agent = unpacked r in
      rw (eq-eqb (length r) row_length tested.long, tested.sound) (
        is-a,
        rw is-a at is_x
            ∙ picked_twice (eqb (answered g.state e) 0) (λ (s : State). packed (with_state g s)) (call_next g.state e.title e.time e.act) g.state r,
      )
