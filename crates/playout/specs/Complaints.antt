-- What the program says on standard error beside its lines: which notices of the log did not count, and that a title that is not there
-- was never opened.
use Rattle.std.specs.Prelude.{ℕ, List, [], ◌++◌, eqb}
use Rattle.rules.specs.Refusals.{pick, not_there}
use Rattle.text.specs.Texts.{text}
use Rattle.files.specs.Lines.{line_of}
use Rattle.unheard_io.specs.Line.{unheard_line}
use Rattle.playouts.specs.Playout.{playout_answer}

unfoldable pub unopened_line : ℕ → ℕ → List ℕ
unopened_line answer title =
    pick (eqb answer not_there) (line_of (text "? title ") title (text " was never opened\n")) []

unfoldable pub playout_complaints : ℕ → List ℕ → ℕ → ℕ → ℕ → List ℕ
playout_complaints pool log title from ticks =
    unheard_line pool log ++ unopened_line (playout_answer pool log title from ticks) title
