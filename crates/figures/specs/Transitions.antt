-- What a dropped lane sends (source 000, Definitions 4 and 5, and figures 6 and 7), by the scheduler's own account.
use Rattle.std.specs.Prelude.{ℕ, ◌+◌, eqb, ltb}
use Rattle.rules.specs.Refusals.{pick}
use Rattle.story.specs.declared.State.{State}
use Rattle.story.specs.Calls.{fresh_next, lane_answer, lane_shows}
use Rattle.story.specs.declared.Act.TheVariants.{Changes}
use Rattle.story.specs.Story.{opens, event}
use Rattle.story.specs.Runs.{called}

-- floor 2, cap 4 and a tick of 1 ms, opened with count 4 at 0, and changed at 4
unfoldable pub changed_to : ℕ → State
changed_to count =
    called (called (fresh_next 4) (event 0 0 (opens 12 2 4 4)))
    (event 0 4 (Changes count))

-- the segment of count 4 that a lane sends at a time; 99 for none
unfoldable pub sent_of : ℕ → ℕ → ℕ → ℕ
sent_of count lane time =
    pick (eqb (lane_answer (changed_to count) 0 lane time) 0)
    (pick (ltb (lane_shows (changed_to count) 0 lane time) 16) (lane_shows (changed_to count) 0 lane time + 1) 99)
    99
