-- How the code walks a window, step by step. No public call's contract cites this; proofs/ shows that a walked window is a block.
use Rattle.std.specs.Prelude.{ℕ, ◌+◌, ◌*◌, ◌-◌, ◌≤◌, ◌<◌, ◌≡◌, Bool, true, List, ◌++◌, length}
use Rattle.notice.specs.Fields.{longest_notice}
use Rattle.text.specs.Output.{page, puts}
use Rattle.scanning.specs.declared.steps.Progress.{Progress}
use Rattle.scanning.specs.Scan.{scan_to}
use Rattle.scanning.specs.inner.Steps.{progress_of, Counts}
use Rattle.salvaging.specs.Pours.{Stands}
use Rattle.salvage.specs.declared.blocks.Walked.{Walked}
use Rattle.salvage_lines.specs.Report.{told_to}
use Rattle.salvage_lines.specs.Report.{told_most}

-- from step k on a log's scan came to p, and what it took and told meanwhile stands at the start of an area and a row
pub record TellsOn (log : List ℕ) (k : ℕ) (p : Progress) (at said : ℕ) (area told area-now told-now : List ℕ) : Type 0 where
  pub steps : ℕ
  pub is : p ≡ progress_of (scan_to log steps)
  pub bytes : List ℕ
  pub bytes_few : length bytes ≤ (scan_to log steps).place - (scan_to log k).place
  pub kept_is : (scan_to log steps).kept ≡ (scan_to log k).kept ++ bytes
  pub area_is : page area-now at ≡ puts (page area 0) bytes
  pub lines : List ℕ
  pub lines_few : length lines ≤ told_most * ((scan_to log steps).place - (scan_to log k).place)
  pub told_is : told_to log steps ≡ told_to log k ++ lines
  pub row_is : page told-now said ≡ puts (page told 0) lines

-- what a window adds: in whatever log it stands, this is the log's own scan, up to where the window no longer decides
pub record Walks (window : List ℕ) (over : Bool) (p : Progress) (r : Walked) (area told area-after told_after : List ℕ)
    : Type 0 where
  pub counts : Counts r.progress
  pub ahead : p.place ≤ r.progress.place
  pub within : r.progress.place ≤ p.place + length window
  pub few : p.place + length window < r.progress.place + longest_notice
  pub all : over ≡ true → r.progress.place ≡ p.place + length window
  pub at_low : r.at ≤ length area-after
  pub said_low : r.said ≤ length told_after
  pub tells : (log : List ℕ) (k : ℕ) → Stands log p.place window over → p ≡ progress_of (scan_to log k)
      → TellsOn log k r.progress r.at r.said area told area-after told_after
