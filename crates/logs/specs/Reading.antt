-- How a log is played into a fresh agent that is kept in a row (`agent_rows`), read by read, with something kept beside it that each
-- notice changes, or each accepted event of one title. No customer's call cites this; proofs/ shows what it comes to.
use Rattle.std.specs.Prelude.{ℕ, ◌≤◌, ◌≡◌, Bool, true, false, List, [], ◌∷◌, eqb}
use Rattle.rules.specs.Limits.{both, event_time_max}
use Rattle.rules.specs.Refusals.{pick, done, malformed}
use Rattle.notice.specs.declared.Notice.{Notice}
use Rattle.notice.specs.declared.Reading.TheVariants as reading
use Rattle.notice.specs.declared.Found.{Found}
use Rattle.notice.specs.declared.Found.TheVariants as found
use Rattle.notice.specs.Log.{notices_of, stop_of}
use Rattle.story.specs.declared.Title.{Title}
use Rattle.story.specs.Kept.{open_mode, title_at}
use Rattle.agent.specs.declared.Agent.{Agent}
use Rattle.agent.specs.Turns.{fresh_agent, notice_answer, noticed}
use Rattle.agent.specs.Played.{agent_told, agent_played}
use Rattle.agent_rows.specs.Packed.{unpacked}
use Rattle.row_calls.specs.inner.Steps.{SoundAgentRow}
use Rattle.logs.specs.declared.PlayedLog.{PlayedLog}
use Rattle.logs.specs.declared.ReadOn.{ReadOn}
use Rattle.logs.specs.declared.OwnRead.{OwnRead}

-- what is kept after notices, newest first, by what each makes of it
unfoldable pub kept_told : {A : Type 0} → (Agent → Notice → A → A) → Agent → A → List Notice → A
kept_told hear g x [] = x
kept_told hear g x (n ∷ ns) = hear (agent_told g ns) n (kept_told hear g x ns)

-- ---- one read

abbrev pub played_of : ℕ → Bool → PlayedLog
played_of e b = record { place = e; more = b }

-- nothing is played, and the row is a fresh agent's
pub record Unplayed (pool : ℕ) (r : List ℕ) (p : PlayedLog) : Type 0 where
  pub is_row : SoundAgentRow r
  pub agent_is : unpacked r ≡ fresh_agent pool
  pub played_is : p ≡ played_of 0 true

-- one read more from a place: past a notice, and no further at the log's end or where bytes are no notice
unfoldable pub stepped : ℕ → Found → PlayedLog
stepped at (found.At n e) = played_of e true
stepped at found.End = played_of at false
stepped at found.Malformed = played_of at false

-- what it makes of the agent,
unfoldable pub agent_read : Agent → Found → Agent
agent_read g (found.At n e) = noticed g (reading.Whole n)
agent_read g found.End = g
agent_read g found.Malformed = g

-- of the row r that the agent is kept in,
pub record RowRead (r : List ℕ) (f : Found) (s : List ℕ) : Type 0 where
  pub is_row : SoundAgentRow s
  pub agent_is : unpacked s ≡ agent_read (unpacked r) f

-- and of what is kept beside it
unfoldable pub kept_read : {A : Type 0} → (Agent → Notice → A → A) → Agent → A → Found → A
kept_read hear g x (found.At n e) = hear g n x
kept_read hear g x found.End = x
kept_read hear g x found.Malformed = x

pub record PlayedStep {A : Type 0} (hear : Agent → Notice → A → A) (r : List ℕ) (at : ℕ) (x : A) (f : Found) (s : List ℕ) (q : PlayedLog) (y : A)
    : Type 0 where
  pub row_read : RowRead r f s
  pub played_is : q ≡ stepped at f
  pub kept_is : y ≡ kept_read hear (unpacked r) x f

-- a log played to where its reading stops
pub record Plays {A : Type 0} (hear : Agent → Notice → A → A) (pool : ℕ) (log : List ℕ) (x : A) (r : List ℕ) (p : PlayedLog) (y : A) : Type 0 where
  pub agent_is : unpacked r ≡ agent_played pool log
  pub place_is : p.place ≡ stop_of log
  pub kept_is : y ≡ kept_told hear (fresh_agent pool) x (notices_of log)

-- what is answered, and of a notice its title and its time; what is no notice is malformed
abbrev pub none_read_yet : ℕ → ReadOn
none_read_yet at = record { played = played_of at false; answer = malformed; title = 0; time = 0 }

unfoldable pub read_next : Agent → ℕ → Found → ReadOn
read_next g at (found.At n e) =
    record { played = played_of e true; answer = notice_answer g (reading.Whole n); title = n.title; time = n.time }
read_next g at found.End = none_read_yet at
read_next g at found.Malformed = none_read_yet at

pub record ReadsLog (r : List ℕ) (at : ℕ) (f : Found) (o : ReadOn) (s : List ℕ) : Type 0 where
  pub is : o ≡ read_next (unpacked r) at f
  pub row_read : RowRead r f s

-- ---- what is kept of one title

-- what an accepted event of title i makes of it, by the title as it stood before and the event's time; no other notice does
unfoldable pub heard_own : {A : Type 0} → (Title → ℕ → A → A) → ℕ → Agent → Notice → A → A
heard_own turn i g n x =
    pick (both (eqb (notice_answer g (reading.Whole n)) done) (eqb n.title i)) (turn (title_at g.state i) n.time x) x

-- an accepted event of an open title is no opening, and one of a title that is not open is an opening, so none is asked its kind
abbrev pub by_mode : {A : Type 0} → (Title → ℕ → A → A) → (ℕ → A → A) → Title → ℕ → A → A
by_mode turns opens t τ x = pick (eqb t.mode open_mode) (turns t τ x) (opens τ x)

abbrev pub own_read : ℕ → Title → ReadOn → OwnRead
own_read i t r = record { played = r.played; own = both (eqb r.answer done) (eqb r.title i); before = t; time = r.time }

-- what a read does to title i
pub record Meets (r : List ℕ) (at i : ℕ) (f : Found) (o : OwnRead) (s : List ℕ) : Type 0 where
  pub is : o ≡ own_read i (title_at (unpacked r).state i) (read_next (unpacked r) at f)
  pub early : o.own ≡ true → o.time ≤ event_time_max
  pub row_read : RowRead r f s
