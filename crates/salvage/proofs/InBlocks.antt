-- Input that comes in blocks is salvaged as the whole would be: the blocks' bytes one behind the other are what the scan of all the
-- input keeps, and what they tell, with the end, is what is told of it.
-- Rests on what a window adds being the scan of whatever log it stands in.
use mathlib.Core.Path.{◌≡◌, refl, sym, ap, ◌∙◌}
use mathlib.Core.Bool.{Bool}
use mathlib.Core.List.{List, ◌++◌}
use Prim.Native.Nat.{ℕ, ◌≤◌}
use native.Mathlib.Omega.{arith}
use lib.ListN.{length}
use Rattle.text.proofs.Pages.{stands}
use Rattle.scanning.specs.declared.steps.Progress.{Progress}
use Rattle.scanning.specs.Scan.{scan_to, scan_of}
use Rattle.scanning.specs.inner.Steps.{progress_of}
use Rattle.salvaging.specs.Pours.{Stands}
use Rattle.scanning.proofs.ScanThrough as through
use Rattle.salvage.specs.declared.blocks.Block.{Block}
use Rattle.salvage.specs.declared.blocks.Walked.{Walked}
use Rattle.salvage_lines.specs.Lines.{end_text}
use Rattle.salvage_lines.specs.Report.{seams_to, seams_text, told_to, report_of}
use Rattle.salvage.specs.Blocks.{block_room, told_room, block_bytes, told_in, Adds, Blocks, SalvageRun, nothing_passed, block_passed, All}
use Rattle.salvage.specs.Walks.{Walks}
use Rattle.salvage.proofs.Seams.{all_told}

-- ---- one block

module _ (window : List ℕ) (over : Bool) (p : Progress) (r : Walked) (area told area-after told_after : List ℕ)
    (w : Walks window over p r area told area-after told_after) (short : length window ≤ block_room)
    (wide : length area ≡ block_room) (long : length told ≡ told_room) where
  abbrev made : Block
  made = record { progress = r.progress; area = area-after; at = r.at; told = told_after; said = r.said }

  added : (log : List ℕ) (k : ℕ) → Stands log p.place window over → p ≡ progress_of (scan_to log k) → Adds log k made
  added log k st is =
      let f = w.tells log k st is in
      let first : p.place ≡ (scan_to log k).place = ap (λ (x : Progress). x.place) is in
      let last : r.progress.place ≡ (scan_to log f.steps).place = ap (λ (x : Progress). x.place) f.is in
      let bytes = stands f.bytes area area-after r.at f.area_is (omega (arith, f.bytes_few, w.within)) in
      let lines = stands f.lines told told_after r.said f.row_is (omega (arith, f.lines_few, w.within)) in
      record {
        steps = f.steps;
        is = f.is;
        kept_is = f.kept_is ∙ ap (λ x. (scan_to log k).kept ++ x) (sym bytes.whole);
        told_is = f.told_is ∙ ap (λ x. told_to log k ++ x) (sym lines.whole);
      }

  pub block_holds : Blocks window over p made
  block_holds =
      record {
        counts = w.counts;
        ahead = w.ahead;
        within = w.within;
        few = w.few;
        all = w.all;
        bytes_low = w.at_low;
        told_low = w.said_low;
        adds = added;
      }

-- ---- a run

-- after so many steps of the log's scan
pub record SoFar (log : List ℕ) (p : Progress) (out told : List ℕ) : Type 0 where
  pub steps : ℕ
  pub is : p ≡ progress_of (scan_to log steps)
  pub out_is : out ≡ (scan_to log steps).kept
  pub told_is : told ≡ told_to log steps

pub so_far_holds : (log : List ℕ) (p : Progress) (out told : List ℕ) → SalvageRun log p out told → SoFar log p out told
unfolding scan_to seams_to seams_text
so_far_holds log p out told nothing_passed = record { steps = 0; is = refl; out_is = refl; told_is = refl }
so_far_holds log p out told (block_passed {p = q} {out = before} {told = said} {b = block} run st b) =
    let f = so_far_holds log q before said run in
    let a = b.adds log f.steps st f.is in
    record {
      steps = a.steps;
      is = a.is;
      out_is = ap (λ x. x ++ block_bytes block) f.out_is ∙ sym a.kept_is;
      told_is = ap (λ x. x ++ told_in block) f.told_is ∙ sym a.told_is;
    }

-- ---- the theorem

pub in_blocks : (log : List ℕ) (p : Progress) (out told : List ℕ) → SalvageRun log p out told → length log ≤ p.place
    → All log p out told
unfolding report_of
in_blocks log p out told run far =
    let f = so_far_holds log p out told run in
    let place : p.place ≡ (scan_to log f.steps).place = ap (λ (x : Progress). x.place) f.is in
    let past : length log ≤ (scan_to log f.steps).place = omega arith in
    let all : scan_to log f.steps ≡ scan_of log = through.all_scanned log f.steps past in
    let counts : p ≡ progress_of (scan_of log) = f.is ∙ ap progress_of all in
    record {
      counts = counts;
      bytes = f.out_is ∙ rw all refl;
      report = ap (λ x. x ++ end_text p) (f.told_is ∙ all_told log f.steps past)
          ∙ ap (λ (x : Progress). told_to log (length log) ++ end_text x) counts;
    }
