-- What a picture shows of any log, as far as it is played: from the last accepted event on no more lanes are held than the pool has, so that
-- no step of the curve passes the line of the pool.
use Rattle.std.specs.Prelude.{ℕ, ◌≤◌, List}
use Rattle.notice.specs.Log.{Bytes, notices_to}
use Rattle.story.specs.Kept.{lanes_held}
use Rattle.story.specs.Runs.{lanes_of}
use Rattle.agent.specs.Turns.{fresh_agent}
use Rattle.agent.specs.Played.{agent_told}

abbrev pub UnderTheLine : Type 0
UnderTheLine =
    (pool : ℕ) (log : List ℕ) (k : ℕ) → Bytes log → (τ : ℕ) → (agent_told (fresh_agent pool) (notices_to log k)).state.last ≤ τ →
    lanes_held (agent_told (fresh_agent pool) (notices_to log k)).state τ ≤ lanes_of pool
