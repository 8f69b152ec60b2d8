-- How the code goes through a log, notice by notice. The report's contract cites nothing of this; proofs/ shows what it comes to.
use Rattle.std.specs.Prelude.{ℕ, ◌≤◌, ◌≡◌, List, [], length}
use Rattle.rules.specs.Limits.{id_max}
use Rattle.rules.specs.Refusals.{Rule, first_hit, before, malformed}
use Rattle.notice.specs.declared.Notice.{Notice}
use Rattle.story.specs.declared.Title.{Title}
use Rattle.story.specs.Kept.{title_at}
use Rattle.agent.specs.declared.Agent.{Agent}
use Rattle.agent.specs.Turns.{fresh_agent}
use Rattle.logs.specs.Reading.{kept_told, heard_own, by_mode}
use Rattle.admissions.specs.declared.Tally.{Tally}
use Rattle.admissions.specs.Stretches.{Few, Playing, fresh_tally, settled}
use Rattle.waiting.specs.Report.{report_rules}

-- an accepted event of an open title ends a stretch, and with an opening the tally begins anew: only the latest counts
abbrev pub event_tally : List ℕ → Title → ℕ → Tally → Tally
event_tally xs = by_mode (λ t τ y. settled t τ xs y) (λ τ y. fresh_tally τ)

-- the tally of title i after a notice
abbrev pub heard_tally : ℕ → List ℕ → Agent → Notice → Tally → Tally
heard_tally i xs = heard_own (event_tally xs) i

-- after notices, newest first
abbrev pub told_tally : ℕ → ℕ → List ℕ → List Notice → Tally
told_tally pool i xs ns = kept_told (heard_tally i xs) (fresh_agent pool) (fresh_tally 0) ns

-- what holds of an agent that was told notices, and of its tally
pub record ReadyToTally (g : Agent) (i : ℕ) (xs : List ℕ) (y : Tally) : Type 0 where
  pub id : i ≤ id_max
  pub playing : (title_at g.state i).mode ≡ 1 → Playing (title_at g.state i)
  pub few : Few (length xs) y.waits

-- the refusals that do not hang on the log
abbrev pub row_rules : ℕ → ℕ → List ℕ → List Rule
row_rules pool title xs = before malformed (report_rules pool [] title xs)

unfoldable pub row_answer : ℕ → ℕ → List ℕ → ℕ
row_answer pool title xs = first_hit (row_rules pool title xs)
