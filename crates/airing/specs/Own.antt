-- A record of our own lane answers (02, request 13): what a receiver would have recorded, had the air carried what the product says.
use Rattle.std.specs.Prelude.{ℕ, ◌*◌, ◌/◌, ◌%◌, ◌<◌, ◌≡◌, List, eqb, replicate}
use Rattle.rules.specs.Limits.{lane_places}
use Rattle.rules.specs.Refusals.{pick, done}
use Rattle.plans.specs.Row.{written}
use Rattle.story.specs.declared.State.{State}
use Rattle.story.specs.Calls.{lane_answer, lane_shows}
use Rattle.story.specs.declared.Event.{Event}
use Rattle.story.specs.Story.{life_of, up_to, moment_of, InTick}
use Rattle.story.specs.Runs.{state_after}
use Rattle.judging.specs.Record.{nothing_seen, ticks_in, seen}

-- the number for a lane question: its cell, or nothing where it is refused
abbrev pub answer_seen : State → ℕ → ℕ → ℕ → ℕ
answer_seen s i l τ = pick (eqb (lane_answer s i l τ) done) (lane_shows s i l τ) nothing_seen

-- in each tick of the latest opening of title i every lane was asked once, at some moment of the tick, of the state that the events
-- up to that very moment have left
pub record OwnAnswers (pool : ℕ) (es : List Event) (i : ℕ) (r : List ℕ) : Type 0 where
  pub moment : ℕ → ℕ → ℕ
  pub within_tick : (t l : ℕ) → t < ticks_in r → InTick (life_of es i) t (moment t l)
  pub answers : (t l : ℕ) → t < ticks_in r → l < lane_places →
      seen r t l ≡ answer_seen (state_after pool (up_to (moment t l) es)) i l (moment t l)

-- the record of n ticks that asks each lane at each tick's start: what stands at a place, twelve of them to a tick, and all of it
unfoldable pub own_number : ℕ → List Event → ℕ → ℕ → ℕ
own_number pool es i j =
    answer_seen (state_after pool (up_to (moment_of (life_of es i) (j / lane_places)) es)) i (j % lane_places)
    (moment_of (life_of es i) (j / lane_places))

unfoldable pub own_record : ℕ → List Event → ℕ → ℕ → List ℕ
own_record pool es i n = written (own_number pool es i) (replicate (n * lane_places) 0) (n * lane_places)
