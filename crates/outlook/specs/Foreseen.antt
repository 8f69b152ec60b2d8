-- What is promised of the outlook, if nobody else acts: the page to read first. 1 to 4 are of every state, reached or not, and of every
-- event; 5 is of states that accepted events reach, told by those events alone. proofs/Foreseen and ForeseenReached show each statement.
use Rattle.std.specs.Prelude.{ℕ, ◌+◌, ◌≤◌, ◌<◌, ◌≡◌, true, false, ◌⊎◌, List}
use Rattle.rules.specs.Limits.{event_time_max, titles_max}
use Rattle.rules.specs.Refusals.{done, id_taken, second_event, not_at_slot, no_lanes, too_soon}
use Rattle.story.specs.declared.Film.{Film}
use Rattle.story.specs.declared.State.{State}
use Rattle.story.specs.declared.Event.{Event}
use Rattle.story.specs.declared.Act.TheVariants.{Opens}
use Rattle.story.specs.Kept.{title_at}
use Rattle.story.specs.Story.{life_of, last_time, held_over, is_there_in, takes_lanes, unopened}
use Rattle.story.specs.Runs.{answered, lanes_of}
use Rattle.outlook.specs.Outlook.{asked_at, when_answer, when_time, is_hit_by, next_start, free_lanes, room_from, id_free_from}
use Rattle.outlook.specs.Outlook.{is_present, never_opened, presence_of}

-- 1. When an event is accepted: at the time that is given, from its own on and on the clock, and at no earlier one; where no time is
-- given, never.
pub record AcceptedWhen (s : State) (e : Event) : Type 0 where
  pub from_its_time : when_answer s e ≡ done → e.time ≤ when_time s e
  pub on_the_clock : when_answer s e ≡ done → when_time s e ≤ event_time_max
  pub accepted : when_answer s e ≡ done → answered s (asked_at e (when_time s e)) ≡ done
  pub refused_before : when_answer s e ≡ done → (υ : ℕ) → e.time ≤ υ → υ < when_time s e → answered s (asked_at e υ) ≡ done → ⊥
  pub never : (when_answer s e ≡ done → ⊥) → (υ : ℕ) → e.time ≤ υ → answered s (asked_at e υ) ≡ done → ⊥

-- 2. Where 8 is answered, the next start lies later, meets none of 7, 16 and 8 if the clock has it, so that the event gets 0 or 9 then, and
-- the event is refused at every time before it.
pub record StartBehindEight (s : State) (e : Event) : Type 0 where
  pub later : e.time < next_start s e
  pub not_second : next_start s e ≤ event_time_max → is_hit_by second_event s e (next_start s e) ≡ false
  pub not_soon : next_start s e ≤ event_time_max → is_hit_by too_soon s e (next_start s e) ≡ false
  pub not_off : next_start s e ≤ event_time_max → is_hit_by not_at_slot s e (next_start s e) ≡ false
  pub done_or_nine : next_start s e ≤ event_time_max →
      (answered s (asked_at e (next_start s e)) ≡ done) ⊎ (answered s (asked_at e (next_start s e)) ≡ no_lanes)
  pub refused_before : (υ : ℕ) → e.time ≤ υ → υ < next_start s e → answered s (asked_at e υ) ≡ done → ⊥

-- 3. Where 9 is answered to an event that takes lanes, it has room later, from then on, and at no time before; an opening is accepted then.
pub record RoomBehindNine (s : State) (e : Event) : Type 0 where
  pub later : e.time < room_from s e
  pub has_room : (υ : ℕ) → room_from s e ≤ υ → υ ≤ event_time_max → is_hit_by no_lanes s e υ ≡ false
  pub none_before : (υ : ℕ) → e.time ≤ υ → υ < room_from s e → is_hit_by no_lanes s e υ ≡ true
  pub opens_then : (f : Film) (k : ℕ) → e.act ≡ Opens f k → room_from s e ≤ event_time_max →
      answered s (asked_at e (room_from s e)) ≡ done

-- 4. Where 4 is answered, the id comes free later, from then on, and at no time before.
pub record FreeBehindFour (s : State) (e : Event) : Type 0 where
  pub later : e.time < id_free_from s e.title e.time
  pub is_free : (υ : ℕ) → id_free_from s e.title e.time ≤ υ → υ ≤ event_time_max → is_hit_by id_taken s e υ ≡ false
  pub none_before : (υ : ℕ) → e.time ≤ υ → υ < id_free_from s e.title e.time → is_hit_by id_taken s e υ ≡ true

pub record Foreseen (s : State) (e : Event) : Type 0 where
  pub accepted_when : AcceptedWhen s e
  pub behind_eight : answered s e ≡ not_at_slot → StartBehindEight s e
  pub behind_nine : answered s e ≡ no_lanes → takes_lanes e.act (title_at s e.title).count ≡ true → RoomBehindNine s e
  pub behind_four : answered s e ≡ id_taken → FreeBehindFour s e

-- 5. Of a reached state: free lanes and lanes held make up the pool; an id's title is present where the events say so, and never opened
-- where none opened it; and 9 is answered to events that take lanes alone, so that 3 holds behind every 9.
pub record ForeseenReached (pool : ℕ) (es : List Event) (s : State) : Type 0 where
  pub free : (τ : ℕ) → last_time es ≤ τ → free_lanes s τ + held_over es τ ≡ lanes_of pool
  pub present : (i τ : ℕ) → i < titles_max → last_time es ≤ τ → presence_of s i τ ≡ is_present → is_there_in (life_of es i) τ ≡ true
  pub not_present : (i τ : ℕ) → i < titles_max → last_time es ≤ τ → (presence_of s i τ ≡ is_present → ⊥) → is_there_in (life_of es i) τ ≡ false
  pub never_opened_holds : (i τ : ℕ) → i < titles_max → presence_of s i τ ≡ never_opened → life_of es i ≡ unopened
  pub nine_takes : (e : Event) → answered s e ≡ no_lanes → takes_lanes e.act (title_at s e.title).count ≡ true
