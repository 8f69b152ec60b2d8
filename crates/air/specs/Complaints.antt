-- What the program says on standard error beside its report: which notices of the log did not count, and of a refusal what its
-- number alone does not tell.
use Rattle.std.specs.Prelude.{ℕ, ◌%◌, List, [], ◌++◌, ltb, length}
use Rattle.rules.specs.Limits.{lane_places}
use Rattle.rules.specs.Refusals.{pick}
use Rattle.text.specs.Texts.{text as spelt}
use Rattle.files.specs.Lines.{line_of}
use Rattle.unheard_io.specs.Line.{unheard_line}
use Rattle.judging.specs.Record.{ticks_max, ticks_in}
use Rattle.airing.specs.Reasons.{is_skip_forward, stray_in}
use Rattle.air.specs.Places.{line_in}

-- a record that is too long
unfoldable pub long_line : List ℕ → List ℕ
long_line r =
    pick (ltb ticks_max (ticks_in r)) (line_of (spelt "? RECORD: more than ") ticks_max (spelt " ticks\n")) []

-- a title that is none of floor and cap
unfoldable pub skip_line : ℕ → List ℕ → ℕ → List ℕ
skip_line pool log title =
    pick (is_skip_forward pool log title) (line_of (spelt "? title ") title (spelt " was last opened as a skip-forward title\n")) []

-- the line of the text and the lane of number k of its record, which the title can't have
unfoldable pub stray_line : List ℕ → ℕ → List ℕ
stray_line text k =
    line_of (spelt "? RECORD: line ") (line_in text k) (spelt ", lane ")
    ++ line_of [] (k % lane_places) (spelt ": the title has no such cell\n")

-- the first such number, if there is one
unfoldable pub stray_text : List ℕ → ℕ → ℕ → List ℕ
stray_text text k size = pick (ltb k size) (stray_line text k) []

-- what is said of a log and of a text that spells a record
unfoldable pub air_complaints : ℕ → List ℕ → ℕ → List ℕ → List ℕ → List ℕ
air_complaints pool log title r text =
    ((unheard_line pool log ++ long_line r) ++ skip_line pool log title)
    ++ stray_text text (stray_in pool log title r) (length r)
