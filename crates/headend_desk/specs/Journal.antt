-- The head-end's journal: what any lines leave, from a fresh agent of a pool on. This is the page to read: what is accepted is written,
-- what is written is accepted, in the same order, and a start from the journal, whole or cut anywhere, is the head-end as it was then.
-- Lines and events come newest first. proofs/Journal shows each statement.
use Rattle.std.specs.Prelude.{ℕ, ◌+◌, ◌*◌, ◌≤◌, ◌<◌, ◌≡◌, Bool, true, List, [], ◌∷◌, ◌++◌, reverse, eqb, length, take}
use Rattle.rules.specs.Limits.{both}
use Rattle.rules.specs.Refusals.{pick, done}
use Rattle.story.specs.declared.Event.{Event}
use Rattle.sums.specs.Crc.{sum_of, sum_size}
use Rattle.notice_fields.specs.Numbers.{number_at}
use Rattle.notice.specs.declared.Notice.{Notice}
use Rattle.notice.specs.Encode.{bytes_of}
use Rattle.notice.specs.Log.{FitsFields, notices_of, stop_of, is_whole_log}
use Rattle.agent.specs.declared.Agent.{Agent}
use Rattle.agent.specs.Turns.{fresh_agent}
use Rattle.agent.specs.Series.{log_kept}
use Rattle.agent.specs.Played.{agent_played, events_played}
use Rattle.console_lines.specs.Lines.{meaning}
use Rattle.console_acts.specs.Events.{event_in}
use Rattle.headend_desk.specs.Desk.{is_event_line, head_answer, head_after, head_notice, head_sum, sum_text}

-- ---- what lines leave

-- the head-end's agent,
unfoldable pub head_of : ℕ → List (List ℕ) → Agent
head_of pool [] = fresh_agent pool
head_of pool (s ∷ ss) = head_after (head_of pool ss) s

-- the bytes of its journal,
unfoldable pub journal_of : ℕ → List (List ℕ) → List ℕ
journal_of pool [] = []
journal_of pool (s ∷ ss) = journal_of pool ss ++ head_notice (head_of pool ss) s

-- the bytes of the journal's sums,
unfoldable pub journal_sums : ℕ → List (List ℕ) → List ℕ
journal_sums pool [] = []
journal_sums pool (s ∷ ss) = journal_sums pool ss ++ head_sum (head_of pool ss) s

-- and the events that it accepted
abbrev pub is_taken : Agent → List ℕ → Bool
is_taken g s = both (is_event_line s) (eqb (head_answer g (event_in (meaning s))) done)

unfoldable pub events_taken : ℕ → List (List ℕ) → List Event
events_taken pool [] = []
events_taken pool (s ∷ ss) = pick (is_taken (head_of pool ss) s) (event_in (meaning s) ∷ events_taken pool ss) (events_taken pool ss)

-- the sums of notices, oldest first, one behind the other
unfoldable pub sums_of : List Notice → List ℕ
sums_of [] = []
sums_of (n ∷ ns) = sum_text (bytes_of n) ++ sums_of ns

-- ---- parts of the journal

-- after some of the lines the journal had n notices, with which it still begins, and played it was the head-end then
pub record UpToNotice (pool : ℕ) (ss : List (List ℕ)) (n : ℕ) : Type 0 where
  pub later : List (List ℕ)
  pub earlier : List (List ℕ)
  pub parts : ss ≡ later ++ earlier
  pub count : length (notices_of (journal_of pool earlier)) ≡ n
  pub rest : List ℕ
  pub begins : journal_of pool ss ≡ journal_of pool earlier ++ rest
  pub plays : agent_played pool (journal_of pool earlier) ≡ head_of pool earlier

-- cut after k bytes, the journal's whole notices are the journal after some of the lines, and played it is the head-end then
pub record CutAt (pool : ℕ) (ss : List (List ℕ)) (k : ℕ) : Type 0 where
  pub later : List (List ℕ)
  pub earlier : List (List ℕ)
  pub parts : ss ≡ later ++ earlier
  pub notices : notices_of (take k (journal_of pool ss)) ≡ notices_of (journal_of pool earlier)
  pub stop : stop_of (take k (journal_of pool ss)) ≡ length (journal_of pool earlier)
  pub kept : take (length (journal_of pool earlier)) (take k (journal_of pool ss)) ≡ journal_of pool earlier
  pub plays : agent_played pool (take k (journal_of pool ss)) ≡ head_of pool earlier

-- a log with a torn end: its notices are those before it, and reading stops where they end
pub record TornEnd (log torn : List ℕ) : Type 0 where
  pub notices : notices_of (log ++ torn) ≡ notices_of log
  pub stop : stop_of (log ++ torn) ≡ length log

-- ---- the page

pub record JournalKept (pool : ℕ) (ss : List (List ℕ)) : Type 0 where
  -- What is accepted is written: the journal is the log of the accepted events, numbered from 1 on, and is whole.
  pub written : journal_of pool ss ≡ log_kept (events_taken pool ss)
  pub whole : is_whole_log (journal_of pool ss) ≡ true
  -- What is written is accepted, in the same order.
  pub accepted : events_played pool (journal_of pool ss) ≡ events_taken pool ss
  -- Played into a fresh agent, the journal gives the head-end's agent.
  pub plays : agent_played pool (journal_of pool ss) ≡ head_of pool ss
  -- So does any number of whole notices from its start, for the events up to there,
  pub any_number : (n : ℕ) → n ≤ length (notices_of (journal_of pool ss)) → UpToNotice pool ss n
  -- and the journal cut at any byte, for its whole notices.
  pub any_cut : (k : ℕ) → CutAt pool ss k
  -- Some bytes of one more notice behind the journal leave what is before them.
  pub torn : (n : Notice) (t rest : List ℕ) → FitsFields n → bytes_of n ≡ t ++ rest → 0 < length rest → TornEnd (journal_of pool ss) t
  -- The sums are those of the journal's notices, one for each in its order,
  pub sums : journal_sums pool ss ≡ sums_of (reverse (notices_of (journal_of pool ss)))
  -- and the four bytes of each spell the checksum of its notice's bytes.
  pub each_sum : (ms ns : List Notice) (n : Notice) → reverse (notices_of (journal_of pool ss)) ≡ ms ++ n ∷ ns →
      number_at (journal_sums pool ss) (sum_size * length ms) sum_size ≡ sum_of (bytes_of n)
