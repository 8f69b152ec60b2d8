-- Short texts, read as the definition says: which are faults, and where, and what counts as a number, a line and a gap. Rest on
-- the definitions, which the checker computes.
use mathlib.Core.Path.{◌≡◌, refl}
use Prim.Native.Nat.{ℕ}
use Prim.Native.String.{String}
use lib.ListN.{get_or, replicate}
use Rattle.text.specs.Texts.{text}
use Rattle.text.specs.Output.{put}
use Rattle.judging.specs.Record.{nothing_seen}
use Rattle.air_record.specs.Record.{no_cell, cell_spelt, sound, no_number, not_twelve, one_more_of, SoFar, ending_cell, closing, failing, longer, dashed, spelling, taking_byte, taken_to, all_taken}

-- a text read into a row with room for two ticks
abbrev read_into : String → SoFar
read_into s = all_taken (text s) (replicate 24 0)

-- what is wrong with it, the line, and the words of that line
abbrev Tells : String → ℕ → ℕ → ℕ → Type 0
Tells s fault line words =
    ((read_into s).scan.fault ≡ fault) × (((read_into s).scan.line ≡ line) × ((read_into s).scan.words ≡ words))

-- ---- lines with too few or too many numbers

pub eleven : Tells "0 1 2 3 4 5 6 7 8 9 10\n" not_twelve 1 11
unfolding text taken_to taking_byte ending_cell closing failing longer dashed spelling cell_spelt one_more_of put
eleven = (refl, (refl, refl))

pub thirteen : Tells "- - - - - - - - - - - -\n\n0 1 2 3 4 5 6 7 8 9 10 11 12\n" not_twelve 3 13
unfolding text taken_to taking_byte ending_cell closing failing longer dashed spelling cell_spelt one_more_of put
thirteen = (refl, (refl, refl))

-- ---- words that are no numbers: a letter, a digit behind a dash, a dash behind a digit

pub letter : Tells "- - - - - - - - - - - -\n0 1 x 3" no_number 2 3
unfolding text taken_to taking_byte ending_cell closing failing longer dashed spelling cell_spelt one_more_of put
letter = (refl, (refl, refl))

pub below_zero : Tells "0 -1 2" no_number 1 2
unfolding text taken_to taking_byte ending_cell closing failing longer dashed spelling cell_spelt one_more_of put
below_zero = (refl, (refl, refl))

pub dash_behind : Tells "5-" no_number 1 1
unfolding text taken_to taking_byte ending_cell closing failing longer dashed spelling cell_spelt one_more_of put
dash_behind = (refl, (refl, refl))

-- ---- blank lines, tabs, carriage returns, and a last line that no newline ends

abbrev two_ticks : String
two_ticks = "\n0 1 2 3 4 5\t6 7 8 9 10 11\r\n \t\r\n- - - - - - - - - - - 7"

pub two_ticks_lem : Tells two_ticks sound 5 0
unfolding text taken_to taking_byte ending_cell closing failing longer dashed spelling cell_spelt one_more_of put
two_ticks_lem = (refl, (refl, refl))

pub two_ticks_row : ((read_into two_ticks).scan.count ≡ 24)
    × ((get_or (read_into two_ticks).row 11 0 ≡ 11)
    × ((get_or (read_into two_ticks).row 12 0 ≡ nothing_seen)
    × (get_or (read_into two_ticks).row 23 0 ≡ 7)))
unfolding text taken_to taking_byte ending_cell closing failing longer dashed spelling cell_spelt one_more_of put
two_ticks_row = (refl, (refl, (refl, refl)))

-- ---- numbers that 16 bits do not hold, or 64

abbrev large_numbers : String
large_numbers = "65535 65536 99999999999999999999 - - - - - - - - -"

pub large : Tells large_numbers sound 2 0
unfolding text taken_to taking_byte ending_cell closing failing longer dashed spelling cell_spelt one_more_of put
large = (refl, (refl, refl))

pub large_row : (get_or (read_into large_numbers).row 0 0 ≡ nothing_seen)
    × ((get_or (read_into large_numbers).row 1 0 ≡ no_cell)
    × (get_or (read_into large_numbers).row 2 0 ≡ no_cell))
unfolding text taken_to taking_byte ending_cell closing failing longer dashed spelling cell_spelt one_more_of put
large_row = (refl, (refl, refl))
