-- What the program says on standard error beside its report: which notices of the log did not count, that a row of arrivals is too
-- long, and that the log never opens the title.
use Rattle.std.specs.Prelude.{ℕ, List, [], ◌++◌, ltb}
use Rattle.rules.specs.Refusals.{pick}
use Rattle.text.specs.Texts.{text}
use Rattle.files.specs.Lines.{line_of}
use Rattle.unheard_io.specs.Line.{unheard_line}
use Rattle.admissions.specs.Waits.{row_max}
use Rattle.waiting.specs.Reasons.{is_never_opened}

unfoldable pub many_line : ℕ → List ℕ
many_line n = pick (ltb row_max n) (line_of (text "? ARRIVALS: more than ") row_max (text " arrivals\n")) []

-- a title that the log never opens
unfoldable pub never_line : ℕ → List ℕ → ℕ → List ℕ
never_line pool log title =
    pick (is_never_opened pool log title) (line_of (text "? title ") title (text " was never opened\n")) []

unfoldable pub waits_complaints : ℕ → List ℕ → ℕ → ℕ → List ℕ
waits_complaints pool log title arrivals = (unheard_line pool log ++ many_line arrivals) ++ never_line pool log title
