-- What an event gives back: the next state where its answer is done, else the state that came in; and that the lanes of
-- a next state can be counted. Rests on the laws of the refusals' order.
use mathlib.Core.Path.{◌≡◌, refl, sym, subst, ◌∙◌}
use mathlib.Core.List.{[], ◌∷◌}
use mathlib.Core.Bool.{Bool}
use Prim.Native.Nat.{ℕ}
use lib.Dec.{eqb}
use borrow.Author.Tests.{eq-eqb, ne_eqb}
use Rattle.rules.specs.Refusals.{pick, refuse, numbered, first_hit, no_lanes}
use Rattle.story.specs.declared.Title.{Title}
use Rattle.story.specs.declared.State.{State}
use Rattle.story.specs.Kept.{no_title}
use Rattle.story.specs.declared.Act.{Act}
use Rattle.story.specs.declared.Act.TheVariants.{Opens, Changes, Closes, Doors}
use Rattle.story.specs.declared.Event.{Event}
use Rattle.story.specs.Story.{event, sets_count}
use Rattle.story.specs.Next.{with_title, call_next}
use Rattle.story.specs.Calls.{too_many, call_answer}
use Rattle.story.specs.Runs.{answered, called}
use Rattle.measures.specs.Readable.{Readable, AllReadable}
use Rattle.owed.proofs.Fixed.{stored}
use Rattle.verdicts.specs.Before.{event_rules, first_answer}
use Rattle.rules.proofs.Refusals.{hit_append}
use Rattle.scheduler.specs.declared.Outcome.{Outcome}
use Rattle.scheduler.specs.Outcomes.{settled_answer}

-- a state with another title that can be read can be read
pub with_readable : (s : State) (i τ : ℕ) (t : Title) → AllReadable s → Readable t → AllReadable (with_title s i t τ)
with_readable s i τ t all r j l = stored Readable s.titles i j t no_title r (all j l)

-- the answer of an event, in two parts
pub in_two : (s : State) (i τ : ℕ) (a : Act) →
    call_answer s i τ a
    ≡ pick (eqb (first_answer s (event i τ a)) 0) (settled_answer (sets_count a) (call_next s i τ a) τ) (first_answer s (event i τ a))
unfolding call_answer first_answer settled_answer numbered first_hit
in_two s i τ (Opens f k) =
    hit_append (event_rules s (event i τ (Opens f k))) (refuse no_lanes (too_many (call_next s i τ (Opens f k)) τ) ∷ []) refl
in_two s i τ (Changes k) =
    hit_append (event_rules s (event i τ (Changes k))) (refuse no_lanes (too_many (call_next s i τ (Changes k)) τ) ∷ []) refl
in_two s i τ Closes = hit_append (event_rules s (event i τ Closes)) [] refl
in_two s i τ (Doors b) = hit_append (event_rules s (event i τ (Doors b))) [] refl

-- a whole answer in two parts, the first of which is known
module _ (whole before : ℕ) (asks : Bool) (s target : State) (τ first : ℕ)
    (two : whole ≡ pick (eqb before 0) (settled_answer asks target τ) before) (is_first : first ≡ before) where
  -- nothing in the first part hits: the second decides
  pub then_settled : first ≡ 0 → (b : Bool) → b ≡ asks → (next : State) → next ≡ target → (a : ℕ) (q : State) → a ≡ settled_answer b next τ →
      q ≡ pick (eqb (settled_answer b next τ) 0) next s → (a ≡ whole) × (q ≡ pick (eqb whole 0) target s)
  then_settled none b same next e a q is-a is-q =
      let w : whole ≡ settled_answer asks target τ = rw (eq-eqb before 0 (sym is_first ∙ none)) at two in
      (rw w (rw (same, e) at is-a), rw w (rw (same, e) at is-q))

  -- a refusal in the first part gives back the state that came in
  pub then_refused : (first ≡ 0 → ⊥) → (first ≡ whole) × (s ≡ pick (eqb whole 0) target s)
  then_refused some =
      let w : whole ≡ first = rw (ne_eqb first 0 some) at (rw (← is_first) at two) in
      rw (w, ne_eqb first 0 some) (refl, refl)

-- what a call gives back of an event, said of the same event in other words
abbrev pub Told : State → Outcome → Event → Type 0
Told s r e = (r.answer ≡ answered s e) × (r.state ≡ called s e)

pub as_event_lem : (s : State) (r : Outcome) (e f : Event) → e ≡ f → Told s r e → Told s r f
as_event_lem s r e f same t = subst (Told s r) same t
