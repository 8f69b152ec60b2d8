-- What is told of a damaged log (02, request 8's program): each stretch that was skipped, the gap in the sequences that it left, and
-- how much was taken.
use Rattle.std.specs.Prelude.{ℕ, zero, suc, Bool, List, [], ◌∷◌, ◌++◌, length}
use Rattle.rules.specs.Limits.{both}
use Rattle.rules.specs.Refusals.{pick}
use Rattle.std.specs.Prelude.{Option}
use Rattle.scanning.specs.declared.steps.Progress.{Progress}
use Rattle.scanning.specs.Scan.{Stretch, stretch, scan_to, scan_of}
use Rattle.scanning.specs.inner.Steps.{progress_of, is_open_at}
use Rattle.salvaging.specs.Pours.{took_one}
use Rattle.salvage_lines.specs.Lines.{stretch_line, gap_line, end_text}

-- a stretch that has ended, with the last taken sequence before it and the one behind it
pub record Seam : Type 0 where
  pub skipped : Stretch
  pub before : Option ℕ
  pub behind : Option ℕ

-- a step from p to q takes a notice where a stretch ends
abbrev pub is_seam : Progress → Progress → Bool
is_seam p q = both (took_one p q) (is_open_at p)

abbrev pub seam_of : Progress → Progress → Seam
seam_of p q = record { skipped = stretch p.start p.size; before = p.last; behind = q.last }

-- the seams of a log's scan after n steps, newest first
unfoldable pub seams_to : List ℕ → ℕ → List Seam
seams_to bs zero = []
seams_to bs (suc n) =
    pick (is_seam (progress_of (scan_to bs n)) (progress_of (scan_to bs (suc n))))
    (seam_of (progress_of (scan_to bs n)) (progress_of (scan_to bs (suc n))) ∷ seams_to bs n) (seams_to bs n)

-- what is told of a seam, and of seams in the order of the log
unfoldable pub seam_text : Seam → List ℕ
seam_text s = stretch_line s.skipped.start s.skipped.size ++ gap_line s.before s.behind

unfoldable pub seams_text : List Seam → List ℕ
seams_text [] = []
seams_text (s ∷ ss) = seams_text ss ++ seam_text s

abbrev pub told_to : List ℕ → ℕ → List ℕ
told_to bs n = seams_text (seams_to bs n)

-- what one step adds
unfoldable pub said_in : Progress → Progress → List ℕ
said_in p q = pick (is_seam p q) (seam_text (seam_of p q)) []

-- all that is told
unfoldable pub report_of : List ℕ → List ℕ
report_of bs = told_to bs (length bs) ++ end_text (progress_of (scan_of bs))

-- so many bytes are told, at most, for each byte that a step passes
abbrev pub told_most : ℕ
told_most = 6
