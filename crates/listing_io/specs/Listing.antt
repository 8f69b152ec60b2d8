-- What the listing prints of a log, told from the log's notices alone, and what a run of its steps is.
use Rattle.std.specs.Prelude.{ℕ, ◌+◌, ◌≡◌, Bool, true, false, List, [], ◌∷◌, ◌++◌, length, take}
use Rattle.rules.specs.Refusals.{pick}
use Rattle.notice.specs.declared.Notice.{Notice}
use Rattle.notice.specs.Decode.{read_at}
use Rattle.notice.specs.Log.{place_to, is_notice, notices_to, notices_of, is_whole_log}
use Rattle.notice.specs.Window.{is_decided, Seen}
use Rattle.agent.specs.declared.Agent.{Agent}
use Rattle.agent.specs.Played.{agent_told}
use Rattle.listing_io.specs.declared.steps.ListedStep.{ListedStep}
use Rattle.listing_io.specs.declared.input.Printed.{Printed}
use Rattle.listing_io.specs.declared.input.Shown.{Shown}
use Rattle.listing_io.specs.Step.{notice_line, cut_line, Shows}

-- the lines of notices that an agent is told, newest first: each told after those before it
unfoldable pub lines_of : Agent → List Notice → List ℕ
lines_of g [] = []
lines_of g (n ∷ ns) = lines_of g ns ++ notice_line (agent_told g ns) n

-- all that is printed of a log: its notices' lines, and one more where the log is not whole
unfoldable pub listing_of : Agent → List ℕ → List ℕ
listing_of g log =
    lines_of g (notices_of log) ++ pick (is_whole_log log) [] (cut_line (agent_told g (notices_of log)))

-- a run of steps over a log, each on whatever buffer sees the place where the one before went on: the agent, the place in the
-- log, whether there is more, and all that was printed
pub data Run (g : Agent) (log : List ℕ) : Agent → ℕ → Bool → List ℕ → Type 0 where
  nothing_listed : Run g log g 0 true []
  step_listed : {h : Agent} {place p : ℕ} {text buffer : List ℕ} {r : Shown}
      → Run g log h place true text → (s : Seen log place buffer p) → Shows h (read_at buffer p) p r
      → Run g log r.listed.agent (length s.before + r.listed.place) r.listed.more
      (text ++ take r.listed.size r.row)

-- the agent of a listing is the agent after the notices up to its place, and it has ended only where no notice is found
pub record UpTo (g : Agent) (log : List ℕ) (r : ListedStep) : Type 0 where
  pub reads : ℕ
  pub place_is : r.place ≡ place_to log reads
  pub agent_is : r.agent ≡ agent_told g (notices_to log reads)
  pub stopped : r.more ≡ false → is_notice (read_at log r.place) ≡ false

-- a listing of what was read goes on up to the first place that is not decided, unless a line could not be written
pub record Drained (g : Agent) (log : List ℕ) (over : Bool) (r : Printed) : Type 0 where
  pub up_to : UpTo g log r.listed
  pub undecided : r.written ≡ true → r.listed.more ≡ true
      → is_decided log r.listed.place over ≡ false
