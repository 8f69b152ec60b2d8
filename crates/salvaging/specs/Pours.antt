-- How the code fills an area and a row over a window. The call's contract cites nothing of this; what a step takes, and how a window
-- stands in a log, are words of the program that reads in blocks too.
use Rattle.std.specs.Prelude.{ℕ, ◌+◌, ◌-◌, ◌≤◌, ◌<◌, ◌≡◌, Bool, true, List, [], ◌∷◌, ◌++◌, eqb, ltb, length}
use Rattle.std.proofs.Math.Seq.{slice}
use Rattle.rules.specs.Refusals.{pick, done}
use Rattle.notice.specs.Fields.{longest_notice}
use Rattle.text.specs.Output.{page, puts}
use Rattle.salvaging.specs.declared.Salvaged.{Salvaged}
use Rattle.salvaging.specs.declared.rows.Laid.{Laid}
use Rattle.salvaging.specs.declared.rows.Poured.{Poured}
use Rattle.scanning.specs.declared.steps.Progress.{Progress}
use Rattle.scanning.specs.Scan.{Stretch, end_of, Scan, scan_to}
use Rattle.scanning.specs.inner.Steps.{progress_of, ending_stretch, Counts}
use Rattle.salvaging.specs.Rows.{flat}

abbrev pub salvaged_to : Progress → Salvaged
salvaged_to p = record { answer = done; notices = p.notices; bytes = p.bytes; stretches = p.stretches }

-- a notice was taken
abbrev pub took_one : Progress → Progress → Bool
took_one p q = ltb p.notices q.notices

-- the bytes that a step over a window that begins at d takes
abbrev pub taken_in : List ℕ → ℕ → Progress → Progress → List ℕ
taken_in window d p q = pick (took_one p q) (slice (p.place - d) (q.place - d) window) []

-- what one step adds, written behind what was there
pub record Lays (window : List ℕ) (d : ℕ) (p q : Progress) (to r : Laid) (area row area-after row_after_lem : List ℕ)
    : Type 0 where
  pub area_is : page area-after r.at ≡ puts (page area to.at) (taken_in window d p q)
  pub row_is : page row_after_lem r.cells ≡ puts (page row to.cells) (pick (took_one p q) (ending_stretch p) [])

-- the stretches that have ended: all but the one that ends at the place
abbrev pub closed : ℕ → List Stretch → List Stretch
closed p [] = []
closed p (t ∷ ts) = pick (eqb (end_of t) p) ts (t ∷ ts)

abbrev pub stretches_ended : Scan → List ℕ
stretches_ended s = flat (closed s.place s.skipped)

-- a window of a log begins at a place, and ends the log if no byte will follow
pub record Stands (log : List ℕ) (place : ℕ) (window : List ℕ) (over : Bool) : Type 0 where
  pub before : List ℕ
  pub later : List ℕ
  pub is : log ≡ before ++ (window ++ later)
  pub there : place ≡ length before
  pub last : over ≡ true → later ≡ []

-- from step k on a log's scan came to p, and what it took and ended meanwhile stands at the start of an area and a row
pub record PoursOn (log : List ℕ) (k : ℕ) (p : Progress) (to : Laid) (area row area-now row_now : List ℕ) : Type 0 where
  pub steps : ℕ
  pub is : p ≡ progress_of (scan_to log steps)
  pub bytes : List ℕ
  pub bytes_few : length bytes ≤ (scan_to log steps).place - (scan_to log k).place
  pub kept_is : (scan_to log steps).kept ≡ (scan_to log k).kept ++ bytes
  pub area_is : page area-now to.at ≡ puts (page area 0) bytes
  pub cells : List ℕ
  pub cells_few : length cells ≤ (scan_to log steps).place - (scan_to log k).place
  pub ended_is : stretches_ended (scan_to log steps) ≡ stretches_ended (scan_to log k) ++ cells
  pub row_is : page row_now to.cells ≡ puts (page row 0) cells

-- what a window adds: in whatever log it stands, this is the log's own scan, up to where the window no longer decides
pub record Pours (window : List ℕ) (over : Bool) (p : Progress) (r : Poured) (area row area-after row_after_lem : List ℕ)
    : Type 0 where
  pub counts : Counts r.progress
  pub ahead : p.place ≤ r.progress.place
  pub within : r.progress.place ≤ p.place + length window
  pub few : p.place + length window < r.progress.place + longest_notice
  pub at_low : r.to.at ≤ length area-after
  pub cells_low : r.to.cells ≤ length row_after_lem
  pub all : over ≡ true → r.progress.place ≡ p.place + length window
  pub follows : (log : List ℕ) (k : ℕ) → Stands log p.place window over → p ≡ progress_of (scan_to log k)
      → PoursOn log k r.progress r.to area row area-after row_after_lem

-- all of a scan, from the start of each
pub record Fills (s : Scan) (area row area-after row_after_lem : List ℕ) : Type 0 where
  pub area_is : area-after ≡ (puts (page area 0) s.kept).row
  pub row_is : row_after_lem ≡ (puts (page row 0) (flat s.skipped)).row
