-- On which line of a record's text a number stands: its words are the numbers, in their order.
use Rattle.std.specs.Prelude.{ℕ, zero, suc, true, false, List, eqb, ltb, length, get_or}
use Rattle.rules.specs.Refusals.{pick}
use Rattle.text.specs.Bytes.{newline, separator}
use Rattle.air.specs.declared.places.Passed.{Passed}
use Rattle.air_record.specs.Record.{one_more_of}

abbrev pub passed_by : ℕ → ℕ → Passed
passed_by words line = record { words = words; inside = false; line = line }

-- one byte more: a newline ends the word and the line, a separator the word, and any other begins a word unless it is inside one
unfoldable pub passing : Passed → ℕ → Passed
passing p b =
    pick (eqb b newline) (passed_by p.words (one_more_of p.line))
    (pick (separator b) (passed_by p.words p.line)
    (record { words = pick p.inside p.words (one_more_of p.words); inside = true; line = p.line }))

-- a text as far as its first n bytes
unfoldable pub passed_to : List ℕ → ℕ → Passed
passed_to text zero = passed_by 0 1
passed_to text (suc n) = passing (passed_to text n) (get_or text n 0)

-- the line of the place, until word k has begun
abbrev pub kept_line : ℕ → Passed → ℕ → ℕ
kept_line line p k = pick (ltb k p.words) line p.line

unfoldable pub line_to : List ℕ → ℕ → ℕ → ℕ
line_to text k zero = 1
line_to text k (suc n) = kept_line (line_to text k n) (passed_to text n) k

-- the line of word k of a text, counted from 0
unfoldable pub line_in : List ℕ → ℕ → ℕ
line_in text k = line_to text k (length text)
