-- What is promised of the words behind a refusal: the page to read first. Of every state and of every event that a line or a notice can
-- say, and of every lane question. proofs/Promise shows it (`event_promise`, `line_promise`, `notice_promise`, `lane_promise`).
use Rattle.std.specs.Prelude.{ℕ, ◌<◌, ◌≡◌, true, false, [], ◌∷◌}
use Rattle.rules.specs.Refusals.{outside_limits, too_early, not_there, id_taken, not_at_slot, no_lanes}
use Rattle.story.specs.declared.State.{State}
use Rattle.story.specs.declared.Event.{Event}
use Rattle.story.specs.Kept.{state_ok, title_at, is_there}
use Rattle.story.specs.Story.{takes_lanes}
use Rattle.story.specs.Calls.{lane_answer, lane_held}
use Rattle.story.specs.Runs.{answered}
use Rattle.outlook.specs.Outlook.{is_present, presence_of}
use Rattle.outlook.specs.Foreseen.{AcceptedWhen, StartBehindEight, RoomBehindNine, FreeBehindFour}
use Rattle.console_commands.specs.Commands.{do_lane}
use Rattle.console_limits.specs.Outside.{SaysOut}
use Rattle.console_reasons.specs.Lanes.{last_in}
use Rattle.console_reasons.specs.Events.{command_for, numbers_of}

-- behind the refusal of an event
pub record EventReasons (s : State) (e : Event) : Type 0 where
  -- 1: the number that is named is the first out of its limits; where none is named, the state is out of its own
  pub one : answered s e ≡ outside_limits → SaysOut (state_ok s) (command_for e.act) (numbers_of e)
  -- 2: the time that is named is later than the event's
  pub two : answered s e ≡ too_early → e.time < s.last
  -- 3: the title is not there, and it is not the lane that is said to be missing
  pub three : answered s e ≡ not_there → is_there (title_at s e.title) e.time ≡ false
  pub three_title : answered s e ≡ not_there → presence_of s e.title e.time ≡ is_present → ⊥
  -- 4: from the time that is named on the id is free, and at no time before
  pub four : answered s e ≡ id_taken → FreeBehindFour s e
  -- 8: at the time that is named none of 7, 16 and 8 hits, and the event is refused at every time before
  pub eight : answered s e ≡ not_at_slot → StartBehindEight s e
  -- 9: from the time that is named on there is room, and at no time before; where a second time is named, the event is accepted then
  pub nine : answered s e ≡ no_lanes → takes_lanes e.act (title_at s e.title).count ≡ true → RoomBehindNine s e
  pub nine_accepted : AcceptedWhen s e

-- behind that of a lane question
pub record LaneReasons (s : State) (i l τ : ℕ) : Type 0 where
  pub one : lane_answer s i l τ ≡ outside_limits → SaysOut (state_ok s) do_lane (i ∷ l ∷ τ ∷ [])
  -- 2: the title's own last event is later
  pub two : lane_answer s i l τ ≡ too_early → τ < last_in s i
  -- 3: the lane is not held; where the title is said to be missing, it is not there
  pub three : lane_answer s i l τ ≡ not_there → lane_held (title_at s i) l τ ≡ false
  pub three_title : lane_answer s i l τ ≡ not_there → (presence_of s i τ ≡ is_present → ⊥) → is_there (title_at s i) τ ≡ false
