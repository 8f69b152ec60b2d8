-- The planner's promise, shown: every statement of specs/Promise. Rests on Started.
use mathlib.Core.Path.{refl, ◌∙◌}
use mathlib.Core.Logic.{inl, inr, ⊎_elim}
use mathlib.Core.List.{List}
use Prim.Native.Nat.{ℕ}
use Rattle.rules.proofs.Tests.{decide}
use Rattle.story.specs.declared.State.{State}
use Rattle.story.specs.declared.Event.{Event}
use Rattle.story.specs.Runs.{Reached}
use Rattle.planner.specs.Moves.{falls_past}
use Rattle.planner.specs.Outcome.{moves}
use Rattle.planner.specs.Promise.{Promise, ListOrPast}
use Rattle.planner.proofs.Passed.{left_answer}
use Rattle.planner.proofs.Started.{carried_out, falls_out}

-- 1. and 2., of every reached state.
pub promised : (pool : ℕ) (es : List Event) (s : State) → Reached pool es s → (rates : List ℕ) (τ room : ℕ) →
    Promise pool s rates τ room
promised pool es s run rates τ room =
    let out = carried_out pool es s run rates τ room in
    record {
      carried = λ h. (out h).carried;
      reached_after = λ h. ((out h).events, (out h).run);
      brought = λ h. (out h).brought;
      past = falls_out pool es s run rates τ room;
    }

-- 3., of every state: with nothing else refused, some event falls past the clock or none.
pub a_list : ListOrPast
a_list s τ rates room st =
    let is = left_answer s τ rates room st in
    ⊎_elim (λ x. inr (is ∙ rw x refl)) (λ x. inl (is ∙ rw x refl)) (decide (falls_past (moves s τ rates)))
