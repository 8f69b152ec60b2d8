-- What the program makes of one block, and what a run over blocks is (02, request 8: input of any length, read in blocks).
use Rattle.std.specs.Prelude.{ℕ, ◌+◌, ◌*◌, ◌≤◌, ◌<◌, ◌≡◌, Bool, true, List, [], ◌++◌, length, take}
use Rattle.notice.specs.Fields.{longest_notice}
use Rattle.scanning.specs.declared.steps.Progress.{Progress}
use Rattle.scanning.specs.Scan.{scan_to, scan_of}
use Rattle.scanning.specs.inner.Steps.{progress_of, fresh_progress, Counts}
use Rattle.salvaging.specs.Pours.{Stands}
use Rattle.salvage.specs.declared.blocks.Block.{Block}
use Rattle.salvage_lines.specs.Lines.{end_text}
use Rattle.salvage_lines.specs.Report.{told_most, told_to, report_of}

abbrev pub block_room : ℕ
block_room = 4096

abbrev pub told_room : ℕ
told_room = told_most * block_room

-- the bytes that a block takes, and what it tells
abbrev pub block_bytes : Block → List ℕ
block_bytes b = take b.at b.area

abbrev pub told_in : Block → List ℕ
told_in b = take b.said b.told

-- from step k on a log's scan came to the block's end, and the block holds what it took and what is told meanwhile
pub record Adds (log : List ℕ) (k : ℕ) (b : Block) : Type 0 where
  pub steps : ℕ
  pub is : b.progress ≡ progress_of (scan_to log steps)
  pub kept_is : (scan_to log steps).kept ≡ (scan_to log k).kept ++ block_bytes b
  pub told_is : told_to log steps ≡ told_to log k ++ told_in b

-- a block that begins at p: in whatever log its window stands, it holds what the log's scan adds
pub record Blocks (window : List ℕ) (over : Bool) (p : Progress) (b : Block) : Type 0 where
  pub counts : Counts b.progress
  pub ahead : p.place ≤ b.progress.place
  pub within : b.progress.place ≤ p.place + length window
  pub few : p.place + length window < b.progress.place + longest_notice
  pub all : over ≡ true → b.progress.place ≡ p.place + length window
  pub bytes_low : b.at ≤ length b.area
  pub told_low : b.said ≤ length b.told
  pub adds : (log : List ℕ) (k : ℕ) → Stands log p.place window over → p ≡ progress_of (scan_to log k) → Adds log k b

-- what was written of a window is a block's
pub record Passes (window : List ℕ) (over : Bool) (p r : Progress) : Type 0 where
  pub block : Block
  pub is : r ≡ block.progress
  pub blocks : Blocks window over p block

-- a run over the blocks of a log, each beginning where the one before ended: how far it has come, all bytes that were taken, and
-- all that was told
pub data SalvageRun (log : List ℕ) : Progress → List ℕ → List ℕ → Type 0 where
  nothing_passed : SalvageRun log fresh_progress [] []
  block_passed : {p : Progress} {out told window : List ℕ} {over : Bool} {b : Block}
      → SalvageRun log p out told → Stands log p.place window over → Blocks window over p b
      → SalvageRun log b.progress (out ++ block_bytes b) (told ++ told_in b)

-- a run that has come to the log's end counted and wrote what the scan of the whole has, and told what is told of it
pub record All (log : List ℕ) (p : Progress) (out told : List ℕ) : Type 0 where
  pub counts : p ≡ progress_of (scan_of log)
  pub bytes : out ≡ (scan_of log).kept
  pub report : told ++ end_text p ≡ report_of log
