-- The last refusal of an event, and the lanes held of any state.
use Rattle.std.specs.Prelude.{ℕ, Bool, true, [], ◌∷◌, eqb}
use Rattle.rules.specs.Limits.{both}
use Rattle.rules.specs.Refusals.{pick, refuse, first_hit, no_lanes}
use Rattle.story.specs.declared.State.{State}
use Rattle.story.specs.Kept.{lanes_held}
use Rattle.story.specs.Calls.{too_many}
use Rattle.questions.specs.Asked.{asked_answer}

-- 01, "Events": an event that asks for lanes is refused for want of them exactly when, with it, more than the pool would be held
unfoldable pub settled_answer : Bool → State → ℕ → ℕ
settled_answer asks next τ = first_hit (refuse no_lanes (both asks (too_many next τ)) ∷ [])

-- lanes held at a time: a question of all titles, with no other number
unfoldable pub held_answer : State → ℕ → ℕ
held_answer s τ = asked_answer s τ true

-- how many; 0 beside a refusal
unfoldable pub held_shown : State → ℕ → ℕ
held_shown s τ = pick (eqb (held_answer s τ) 0) (lanes_held s τ) 0
