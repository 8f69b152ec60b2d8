-- What is known of a row and of an event once they were tested, and what a notice makes of such a row.
use Rattle.std.specs.Prelude.{ℕ, ◌≤◌, ◌<◌, ◌≡◌, true, false, not, List, ltb, eqb, length}
use Rattle.rules.specs.Limits.{both}
use Rattle.rules.specs.Refusals.{pick, done, too_early, not_there}
use Rattle.grid.specs.Bounds.{tick_max}
use Rattle.notice.specs.declared.Notice.{Notice}
use Rattle.notice.specs.declared.Reading.TheVariants as reading
use Rattle.story.specs.declared.Title.{Title}
use Rattle.story.specs.declared.Act.{Act}
use Rattle.story.specs.Kept.{state_ok, title_ok, tick_at, ruling}
use Rattle.story.specs.Story.{act_limits}
use Rattle.story.specs.Calls.{event_ok, lane_held}
use Rattle.measures.specs.Readable.{Sending}
use Rattle.owed.specs.Shown.{shown_tick}
use Rattle.agent.specs.Turns.{notice_answer, noticed}
use Rattle.agent_rows.specs.Layout.{row_length}
use Rattle.agent_rows.specs.Packed.{unpacked, row_sound}

-- a row of the right length, sound, with every number within its limits
pub record Tested (r : List ℕ) : Type 0 where
  pub long : length r ≡ row_length
  pub sound : row_sound r ≡ true
  pub ok : state_ok (unpacked r).state ≡ true

-- a row that an agent has: of the right length, and sound
pub record SoundAgentRow (r : List ℕ) : Type 0 where
  pub long : length r ≡ row_length
  pub sound : row_sound r ≡ true

-- what a notice is answered on a row that was tested, and the row x that it leaves: that of the agent that took it
pub record TakesNotice (r : List ℕ) (n : Notice) (a : ℕ) (x : List ℕ) : Type 0 where
  pub answers : a ≡ notice_answer (unpacked r) (reading.Whole n)
  pub agent_is : unpacked x ≡ noticed (unpacked r) (reading.Whole n)
  pub is_row : SoundAgentRow x

-- an event whose numbers are within their limits, and which comes no earlier than the last
pub record Timely (r : List ℕ) (i τ : ℕ) (a : Act) : Type 0 where
  pub numbers : both (event_ok (unpacked r).state i τ) (act_limits a true) ≡ true
  pub late : ltb τ (unpacked r).state.last ≡ false

-- a lane above the ruling count of a title that is there, at a tick
pub record Above (t : Title) (l n : ℕ) : Type 0 where
  pub ok : title_ok t ≡ true
  pub sending : Sending t
  pub above : ruling t ≤ l
  pub capped : l < t.film.cap
  pub early : n ≤ tick_max

-- a tick that may be asked about
pub record Early (is-tick n : ℕ) : Type 0 where
  pub is : n ≡ is-tick
  pub high : n ≤ tick_max

-- what a title alone answers to a lane question, behind the limits, and the tick whose cell goes out; 0 beside a refusal
unfoldable pub lane_told : Title → ℕ → ℕ → ℕ
lane_told t l τ = pick (ltb τ t.last) too_early (pick (not (lane_held t l τ)) not_there done)

unfoldable pub tick_told : Title → ℕ → ℕ → ℕ
tick_told t l τ = pick (eqb (lane_told t l τ) done) (shown_tick t l (tick_at t τ)) 0
