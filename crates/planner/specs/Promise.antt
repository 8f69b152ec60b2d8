-- The planner's promise, for every state that accepted events reach, if nobody else acts (02, 11): the page to read first.
-- proofs/Promise shows each statement. `pool` is the pool of those events; the call asks for a list from τ on, with a row of rates and
-- room for so many events.
use Rattle.std.specs.Prelude.{ℕ, ◌<◌, ◌≡◌, ◌⊎◌, List}
use Rattle.rules.specs.Limits.{titles_max}
use Rattle.rules.specs.Refusals.{done, past_clock}
use Rattle.story.specs.declared.State.{State}
use Rattle.story.specs.declared.Event.{Event}
use Rattle.story.specs.Calls.{status_count}
use Rattle.story.specs.Runs.{Reached}
use Rattle.wishes.specs.Wishes.{wishes}
use Rattle.planner.specs.Moves.{all_moved}
use Rattle.planner.specs.Outcome.{moves, planner_answer, Standing}
use Rattle.planner.specs.Carried.{Carried, Past, goal_of}

pub record Promise (pool : ℕ) (s : State) (rates : List ℕ) (τ room : ℕ) : Type 0 where
  -- 1. Where 0 is answered, each listed event is accepted at its time by the scheduler's own call, in the list's order, and at no
  -- earlier time from the given one and the event before it on.
  pub carried : planner_answer s τ rates room ≡ done → Carried s τ (moves s τ rates) (all_moved s τ (wishes s rates))
  -- The state that they leave is reached too,
  pub reached_after : planner_answer s τ rates room ≡ done → (all : List Event) × Reached pool all (all_moved s τ (wishes s rates))
  -- and there every title that takes part has its share, and every other what it had.
  pub brought : planner_answer s τ rates room ≡ done → (i : ℕ) → i < titles_max →
      status_count (all_moved s τ (wishes s rates)) i ≡ goal_of s rates i
  -- 2. Where 18 is answered, the events before some one come, and the earliest time of that one, over all times, lies past the clock.
  pub past : planner_answer s τ rates room ≡ past_clock → Past s τ (wishes s rates)

-- 3. So a list is there for every state, reached or not, whose floors fit what is shared and whose events fit the clock: where 1, 2, 9
-- and 10 pass, the answer is 0 or 18.
abbrev pub ListOrPast : Type 0
ListOrPast = (s : State) (τ : ℕ) (rates : List ℕ) (room : ℕ) → Standing s τ rates room →
    (planner_answer s τ rates room ≡ done) ⊎ (planner_answer s τ rates room ≡ past_clock)
