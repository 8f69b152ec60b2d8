-- The lines of the report (02, request 8's program).
use Rattle.std.specs.Prelude.{ℕ, ◌+◌, ◌*◌, List, [], ◌++◌, eqb}
use Rattle.rules.specs.Refusals.{pick}
use Rattle.text.specs.Texts.{text}
use Rattle.text.specs.Digits.{digits_most, decimal}
use Rattle.std.specs.Prelude.{Option}
use Rattle.std.specs.Prelude.{Some, None}
use Rattle.scanning.specs.declared.steps.Progress.{Progress}
use Rattle.scanning.specs.inner.Steps.{is_open_at}

-- two numbers in decimal among words
unfoldable pub two_numbers : List ℕ → ℕ → List ℕ → ℕ → List ℕ → List ℕ
two_numbers name n amid m end = (((name ++ decimal n) ++ amid) ++ decimal m) ++ end

-- a stretch: where it starts, counted from 0, and how long it is
unfoldable pub stretch_line : ℕ → ℕ → List ℕ
stretch_line start size = two_numbers (text "skipped ") start (text " ") size (text "\n")

-- a sequence behind another that is not the one before it
unfoldable pub follows_line : ℕ → ℕ → List ℕ
follows_line s l = pick (eqb s (l + 1)) [] (two_numbers (text "sequence ") s (text " follows ") l (text "\n"))

-- the gap that a stretch left in the sequences, between the notice that was taken before it, if any, and the one behind it
unfoldable pub gap_line : Option ℕ → Option ℕ → List ℕ
gap_line (Some l) (Some s) = follows_line s l
gap_line (Some l) None = []
gap_line None after = []

-- the last line, in these words for every number
unfoldable pub total_line : ℕ → ℕ → List ℕ
total_line notices bytes = two_numbers (text "taken ") notices (text " notices, ") bytes (text " bytes\n")

-- the stretch that ends at the place, if one does
unfoldable pub open_line : Progress → List ℕ
open_line p = pick (is_open_at p) (stretch_line p.start p.size) []

-- what is said at the end of the input: the stretch that ends there, and how much was taken
unfoldable pub end_text : Progress → List ℕ
end_text p = open_line p ++ total_line p.notices p.bytes

-- three words of 10 bytes at most and two numbers of 20 digits at most: no line is longer
abbrev pub word_most : ℕ
word_most = 10

abbrev pub line_most : ℕ
line_most = 3 * word_most + 2 * digits_most

-- room for both lines of the end
abbrev pub end_room : ℕ
end_room = 2 * line_most
