-- The marks of a log, notice by notice, as a fresh agent of a pool takes them.
use Rattle.std.specs.Prelude.{ℕ, ◌≡◌, List, [], ◌++◌}
use Rattle.notice.specs.declared.Notice.{Notice}
use Rattle.notice.specs.declared.Found.{Found}
use Rattle.notice.specs.declared.Found.TheVariants as found
use Rattle.notice.specs.Log.{notices_of, stop_of}
use Rattle.agent.specs.declared.Agent.{Agent}
use Rattle.agent.specs.Turns.{fresh_agent}
use Rattle.agent.specs.Played.{agent_played}
use Rattle.agent_rows.specs.Packed.{unpacked}
use Rattle.row_calls.specs.inner.Steps.{Tested}
use Rattle.logs.specs.Reading.{kept_told, stepped, RowRead}
use Rattle.logs.specs.declared.PlayedLog.{PlayedLog}
use Rattle.text.specs.declared.page.Page.{Page}
use Rattle.text.specs.Pages.{Puts}
use Rattle.frames.specs.declared.bands.View.{View}
use Rattle.log_marks.specs.Hearing.{notice_marks, notice_kept}

-- what is drawn so far, and the row of numbers that is kept
pub record Drawn : Type 0 where
  pub text : List ℕ
  pub kept : List ℕ

abbrev pub undrawn : List ℕ → Drawn
undrawn kept = record { text = []; kept = kept }

-- one notice more
unfoldable pub heard_drawn : View → Agent → Notice → Drawn → Drawn
heard_drawn v g n d = record { text = d.text ++ notice_marks v g n d.kept; kept = notice_kept v g n d.kept }

-- those of a log
abbrev pub drawn_of : View → ℕ → List ℕ → List ℕ → Drawn
drawn_of v pool log kept = kept_told (heard_drawn v) (fresh_agent pool) (undrawn kept) (notices_of log)

-- ---- how the code goes through it

-- the marks of one read, and what is kept after it
unfoldable pub found_marks : View → Agent → Found → List ℕ → List ℕ
found_marks v g (found.At n e) kept = notice_marks v g n kept
found_marks v g found.End kept = []
found_marks v g found.Malformed kept = []

unfoldable pub found_kept : View → Agent → Found → List ℕ → List ℕ
found_kept v g (found.At n e) kept = notice_kept v g n kept
found_kept v g found.End kept = kept
found_kept v g found.Malformed kept = kept

pub record DrawsStep (v : View) (r : List ℕ) (place : ℕ) (f : Found) (p : Page) (kept s : List ℕ) (d : PlayedLog) (q : Page) (kept' : List ℕ)
    : Type 0 where
  pub row_read : RowRead r f s
  pub played_is : d ≡ stepped place f
  pub written : Puts p (found_marks v (unpacked r) f kept) q
  pub kept_is : kept' ≡ found_kept v (unpacked r) f kept

pub record DrawsAll (v : View) (pool : ℕ) (log : List ℕ) (p : Page) (kept s : List ℕ) (d : PlayedLog) (q : Page) (kept' : List ℕ) : Type 0 where
  pub tested : Tested s
  pub agent_is : unpacked s ≡ agent_played pool log
  pub place_is : d.place ≡ stop_of log
  pub written : Puts p (drawn_of v pool log kept).text q
  pub kept_is : kept' ≡ (drawn_of v pool log kept).kept
