-- One step of the listing: the line that is printed, the agent after it, and where it goes on (01, "Numbers worked through").
use Rattle.std.specs.Prelude.{ℕ, ◌≤◌, ◌≡◌, List, [], eqb, length, take}
use Rattle.rules.specs.Refusals.{pick, done, malformed}
use Rattle.notice.specs.declared.Notice.{Notice}
use Rattle.notice.specs.declared.Reading.TheVariants as reading
use Rattle.notice.specs.declared.Found.{Found}
use Rattle.notice.specs.declared.Found.TheVariants as found
use Rattle.notice.specs.Encode.{kind_of}
use Rattle.notice.specs.Decode.{place_after}
use Rattle.notice.specs.Log.{is_notice, with_found}
use Rattle.scheduler.specs.Outcomes.{held_shown}
use Rattle.agent.specs.declared.Agent.{Agent}
use Rattle.agent.specs.Turns.{notice_answer, noticed}
use Rattle.agent.specs.Played.{agent_told}
use Rattle.text.specs.Output.{page, puts}
use Rattle.listing_io.specs.declared.steps.ListedStep.{ListedStep}
use Rattle.listing_io.specs.declared.input.Shown.{Shown}
use Rattle.listing_io.specs.Lines.{listing_line, last_line}

-- lanes held: at the notice's time, after a refusal at the last accepted event's time
unfoldable pub held_after : Agent → ℕ → ℕ → ℕ
held_after g answer time = held_shown g.state (pick (eqb answer done) time g.state.last)

-- the line of a notice that an agent is told
unfoldable pub notice_line : Agent → Notice → List ℕ
notice_line g n =
    listing_line n.sequence (kind_of n.kind) n.title (notice_answer g (reading.Whole n))
    (held_after (noticed g (reading.Whole n)) (notice_answer g (reading.Whole n)) n.time)

-- the line where a log is malformed or cut
unfoldable pub cut_line : Agent → List ℕ
cut_line g = last_line (held_after g malformed 0)

-- the line of what is found at a place: none at the end
abbrev pub line_after : Agent → Found → List ℕ
line_after g (found.At n e) = notice_line g n
line_after g found.End = []
line_after g found.Malformed = cut_line g

-- what a step makes of what is found at a place: the agent, where it goes on, and whether, refused or not
pub record Hears (g : Agent) (f : Found) (p : ℕ) (r : ListedStep) : Type 0 where
  pub agent_is : r.agent ≡ agent_told g (with_found f [])
  pub place_is : r.place ≡ place_after f p
  pub more_is : r.more ≡ is_notice f

-- with the line written at the start of a lent row
pub record Lists (g : Agent) (f : Found) (p : ℕ) (room : List ℕ) (r : ListedStep) (after : List ℕ) : Type 0 where
  pub hears : Hears g f p r
  pub line_is : page after r.size ≡ puts (page room 0) (line_after g f)

-- with the whole line in a row of its own, which is what is printed
pub record Shows (g : Agent) (f : Found) (p : ℕ) (r : Shown) : Type 0 where
  pub hears : Hears g f p r.listed
  pub prints : take r.listed.size r.row ≡ line_after g f
  pub fits : r.listed.size ≤ length r.row
