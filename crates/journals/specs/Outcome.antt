-- What a start's verdict says of the files. At every verdict the notices up to the cut are whole, each has its sum, and the agent has heard
-- just them.
use Rattle.std.specs.Prelude.{ℕ, suc, ◌+◌, ◌/◌, ◌≤◌, ◌<◌, ◌≡◌, Bool, true, false, ◌⊎◌, List, length, take, drop}
use Rattle.sums.specs.Crc.{sum_of}
use Rattle.notice.specs.declared.Notice.{Notice}
use Rattle.notice.specs.declared.Reading.TheVariants as reading
use Rattle.notice.specs.declared.Found.TheVariants as found
use Rattle.notice.specs.Decode.{read_at}
use Rattle.notice.specs.Log.{place_to, is_notice, notices_to, is_whole_log}
use Rattle.agent.specs.declared.Agent.{Agent}
use Rattle.agent.specs.Turns.{fresh_agent, notice_answer}
use Rattle.agent.specs.Played.{agent_told, agent_played}
use Rattle.journals.specs.declared.Verdict.{Verdict}
use Rattle.journals.specs.declared.Verdict.TheVariants.{Hearing, Heard, Torn, NoNotice, SumDiffers, Refused, SumsShort, SumsMissing}
use Rattle.journals.specs.Torn.{is_torn, had_kind}
use Rattle.journals.specs.Start.{sum_bytes, block_events, is_going, Stage, sum_at, part_of}

-- the bytes of a log's notice, which is number i from 0 on
abbrev pub notice_bytes : List ℕ → ℕ → List ℕ
notice_bytes j i = part_of j (place_to j i) (place_to j (suc i))

-- what was played of a journal, and what was counted behind it
pub record Heeded (pool : ℕ) (j s : List ℕ) (x : Stage Agent) : Type 0 where
  -- it stands behind so many whole notices, and the cut behind those that were played
  pub whole : (i : ℕ) → i < x.start.heard + x.start.behind → is_notice (read_at j (place_to j i)) ≡ true
  pub place_is : x.start.place ≡ place_to j (x.start.heard + x.start.behind)
  pub cut_is : x.start.cut ≡ place_to j x.start.heard
  -- each that was played has its sum, and the agent has heard just those, in turn
  pub sums_fit : (i : ℕ) → i < x.start.heard → sum_of (notice_bytes j i) ≡ sum_at s i
  pub agent_is : x.hearer ≡ agent_told (fresh_agent pool) (notices_to j x.start.heard)
  pub in_turn : x.hearer.sequence ≡ x.start.heard
  -- behind the last sum are no more than a block of input can hold
  pub unsummed : 0 < x.start.behind → x.start.sums ≤ x.start.heard
  pub few : x.start.behind ≤ block_events
  pub sums_are : x.start.sums ≡ length s / sum_bytes

-- a notice at the place, of which this holds with the place behind it
pub record NoticeHere (j : List ℕ) (p : ℕ) (P : Notice → ℕ → Type 0) : Type 0 where
  pub notice : Notice
  pub end : ℕ
  pub is : read_at j p ≡ found.At notice end
  pub holds : P notice end

-- what each verdict says of the place at which the start has ended
abbrev pub Says : List ℕ → Bool → List ℕ → Stage Agent → Verdict → Type 0
Says j there s x Hearing = Unit {0}
Says j there s x Heard = length j ≤ x.start.place
Says j there s x Torn = (read_at j x.start.place ≡ found.Malformed) × (is_torn (drop x.start.place j) ≡ true)
Says j there s x NoNotice = (read_at j x.start.place ≡ found.Malformed) × (is_torn (drop x.start.place j) ≡ false)
Says j there s x SumDiffers =
    (x.start.heard < x.start.sums)
    × (NoticeHere j x.start.place (λ n e. sum_of (part_of j x.start.place e) ≡ sum_at s x.start.heard → ⊥)
    ⊎ (had_kind (drop x.start.place j) (sum_at s x.start.heard) ≡ true))
Says j there s x (Refused a) =
    (x.start.heard < x.start.sums)
    × NoticeHere j x.start.place
    (λ n e. (sum_of (part_of j x.start.place e) ≡ sum_at s x.start.heard) × ((a ≡ notice_answer x.hearer (reading.Whole n)) × (a ≡ 0 → ⊥)))
Says j there s x SumsShort =
    (x.start.sums ≤ x.start.heard) × ((x.start.behind ≡ block_events) × (is_notice (read_at j x.start.place) ≡ true))
Says j there s x SumsMissing = (0 < length j) × (there ≡ false)

-- the page: of any pool, any journal and any sums
pub record Outcome (pool : ℕ) (j : List ℕ) (there : Bool) (s : List ℕ) (x : Stage Agent) : Type 0 where
  pub ended : is_going x.start.verdict ≡ false
  pub heeded : Heeded pool j s x
  pub says : Says j there s x x.start.verdict
  -- the journal cut there is whole, and playing it gives the agent
  pub cut_whole : is_whole_log (take x.start.cut j) ≡ true
  pub cut_agent : x.hearer ≡ agent_played pool (take x.start.cut j)
