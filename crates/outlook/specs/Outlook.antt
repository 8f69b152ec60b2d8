-- What a state says of times to come, if nobody else acts: when an event is accepted, when a title's rules permit it, when it has room,
-- when an id comes free, and whether a title is there. A time is looked for among those up to the clock's last, and the one after them
-- stands for none; 0 is given where nothing is to be looked for, as each definition says.
use Rattle.std.specs.Prelude.{ℕ, ◌-◌, max, Bool, not, leb, eqb}
use Rattle.rules.specs.Limits.{both, either, id_max, event_time_max}
use Rattle.rules.specs.Refusals.{pick, hits_of, done, second_event, not_at_slot, no_lanes, too_soon, past_clock}
use Rattle.story.specs.declared.State.{State}
use Rattle.story.specs.declared.Event.{Event}
use Rattle.story.specs.Kept.{absent_mode, title_at, state_ok, lanes_held, is_there}
use Rattle.story.specs.Story.{event, order_of, takes_lanes}
use Rattle.story.specs.Calls.{event_ok, tests_in}
use Rattle.story.specs.Runs.{answered}
use Rattle.moments.specs.Moments.{earliest}
use Rattle.verdicts.specs.Before.{first_answer}

-- the same event at another time
abbrev pub asked_at : Event → ℕ → Event
asked_at e υ = event e.title υ e.act

-- ---- when an event is accepted

abbrev pub is_accepted_at : State → Event → ℕ → Bool
is_accepted_at s e υ = eqb (answered s (asked_at e υ)) done

-- the earliest time from its own on at which it is
unfoldable pub first_accepted : State → Event → ℕ
first_accepted s e = earliest (is_accepted_at s e) e.time

-- a later time may mend it: accepted, a second event at one moment, too soon, no permitted slot start, too few lanes
abbrev pub is_mended : ℕ → Bool
is_mended n = either (eqb n done) (either (eqb n second_event) (either (eqb n too_soon) (either (eqb n not_at_slot) (eqb n no_lanes))))

-- what an event is answered that no time of the clock accepts, asked no earlier than the last event: 18 where a later time might mend it
abbrev pub lasting_answer : State → Event → ℕ
lasting_answer s e =
    let n : ℕ = answered s (asked_at e (max e.time s.last)) in
    pick (is_mended n) past_clock n

unfoldable pub when_answer : State → Event → ℕ
when_answer s e = pick (leb (first_accepted s e) event_time_max) done (lasting_answer s e)

-- 0 beside a refusal
unfoldable pub when_time : State → Event → ℕ
when_time s e = pick (leb (first_accepted s e) event_time_max) (first_accepted s e) 0

-- ---- when the rules of its title permit it

-- refusal n hits an event at υ, whatever else does
abbrev pub is_hit_by : ℕ → State → Event → ℕ → Bool
is_hit_by n s e υ = hits_of n (order_of e.act (tests_in s e.title υ e.act))

-- none of 7, 16 and 8 does
unfoldable pub is_allowed : State → Event → ℕ → Bool
is_allowed s e υ = not (either (is_hit_by second_event s e υ) (either (is_hit_by too_soon s e υ) (is_hit_by not_at_slot s e υ)))

-- the earliest such time from its own on; 0 where the state, the id or the time is outside its limits, or the id was never opened
unfoldable pub next_start : State → Event → ℕ
next_start s e =
    pick (both (event_ok s e.title e.time) (not (eqb (title_at s e.title).mode absent_mode)))
    (earliest (is_allowed s e) e.time)
    0

-- ---- lanes

-- how many lanes of the pool are not held at a time; 0 where the state is outside its limits
unfoldable pub free_lanes : State → ℕ → ℕ
free_lanes s τ = pick (state_ok s) (s.pool - lanes_held s τ) 0

-- an event that takes no lanes has room; an opening or a raise has it where 9 does not hit
unfoldable pub finds_room : State → Event → ℕ → Bool
finds_room s e υ = either (not (takes_lanes e.act (title_at s e.title).count)) (not (is_hit_by no_lanes s e υ))

-- the earliest time from its own on at which it has; 0 where another refusal than 9 hits the event
unfoldable pub room_from : State → Event → ℕ
room_from s e = pick (eqb (first_answer s e) done) (earliest (finds_room s e) e.time) 0

-- ---- ids

-- the earliest time from τ on at which an id may open, so that 4 does not hit; 0 where the state, the id or the time is outside its limits
unfoldable pub id_free_from : State → ℕ → ℕ → ℕ
id_free_from s i τ = pick (event_ok s i τ) (earliest (λ υ. not (is_there (title_at s i) υ)) τ) 0

abbrev pub never_opened : ℕ
never_opened = 0

-- opened, closed, and with no lane held any more
abbrev pub is_gone : ℕ
is_gone = 1

-- open, or closing with a lane still held
abbrev pub is_present : ℕ
is_present = 2

-- what became of an id's title by a time; never opened where the state or the id is outside its limits
unfoldable pub presence_of : State → ℕ → ℕ → ℕ
presence_of s i τ =
    pick (both (state_ok s) (leb i id_max))
    (pick (eqb (title_at s i).mode absent_mode) never_opened (pick (is_there (title_at s i) τ) is_present is_gone))
    never_opened
