-- What a head-end that was killed leaves, and that the next start needs no help with it.
use Rattle.std.specs.Prelude.{ℕ, ◌+◌, ◌/◌, ◌≤◌, ◌≡◌, true, false, ◌⊎◌, List, length, take, drop}
use Rattle.sums.specs.Crc.{sum_of}
use Rattle.notice.specs.declared.Notice.{Notice}
use Rattle.notice.specs.declared.Reading.TheVariants as reading
use Rattle.notice.specs.declared.Found.TheVariants as found
use Rattle.notice.specs.Decode.{read_at}
use Rattle.notice.specs.Log.{Bytes, place_to, is_notice, notices_to, is_whole_log}
use Rattle.agent.specs.declared.Agent.{Agent}
use Rattle.agent.specs.Turns.{fresh_agent, notice_answer}
use Rattle.agent.specs.Played.{agent_told}
use Rattle.journals.specs.declared.Verdict.TheVariants.{SumDiffers}
use Rattle.journals.specs.Torn.{had_kind}
use Rattle.journals.specs.Start.{sum_bytes, block_events, is_good, Stage, sum_at}
use Rattle.journals.specs.Outcome.{notice_bytes}

-- a journal and its sums as a head-end keeps them: notices back to back, each accepted after those before it, and the sum of each
pub record KeptWith (pool : ℕ) (j s : List ℕ) : Type 0 where
  pub bytes : Bytes j
  pub whole : is_whole_log j ≡ true
  pub accepted : (i : ℕ) (n : Notice) (e : ℕ) → read_at j (place_to j i) ≡ found.At n e
      → notice_answer (agent_told (fresh_agent pool) (notices_to j i)) (reading.Whole n) ≡ 0
  pub summed : (i : ℕ) → is_notice (read_at j (place_to j i)) ≡ true → sum_of (notice_bytes j i) ≡ sum_at s i

-- what is left of them: the journal up to some byte, the sums up to another, and behind the last whole sum no more whole notices than one
-- block of input can hold
pub record LeftOf (j s : List ℕ) (c m : ℕ) : Type 0 where
  pub journal_to : c ≤ length j
  pub sums_to_holds : m ≤ length s
  pub one_block : (i : ℕ) → length (take m s) / sum_bytes + block_events ≤ i → is_notice (read_at (take c j) (place_to (take c j) i)) ≡ false

-- the start goes on, as `is_good` answers: all was heard, or the end is torn. What is left of a notice may, by the odds of its sum, have it as a notice of another
-- kind: then it is refused
abbrev pub GoesOn : List ℕ → List ℕ → Stage Agent → Type 0
GoesOn j s x =
    (is_good x.start.verdict ≡ true)
    ⊎ ((x.start.verdict ≡ SumDiffers) × (had_kind (drop x.start.place j) (sum_at s x.start.heard) ≡ true))
