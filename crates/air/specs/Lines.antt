-- What the program prints (02, request 13's program): a line for each admission that the record judges and three in all, or a
-- refusal's number and its meaning; and what is wrong with a text that is no record.
use Rattle.std.specs.Prelude.{ℕ, zero, suc, ◌-◌, List, [], ◌++◌, eqb}
use Rattle.rules.specs.Refusals.{pick, done}
use Rattle.text.specs.Texts.{text}
use Rattle.text.specs.Digits.{decimal}
use Rattle.files.specs.Lines.{line_of}
use Rattle.words.specs.Words.{refusal_text}
use Rattle.story.specs.Life.{Life}
use Rattle.agent.specs.Played.{life_in}
use Rattle.judging.specs.Record.{nothing_seen, ticks_max, ticks_in}
use Rattle.judging.specs.Judged.{is_judged, result_of}
use Rattle.airing.specs.declared.Judgement.{Judgement}
use Rattle.airing.specs.Air.{air_answer, judgement_of}
use Rattle.air_record.specs.declared.record.Scan.{Scan}
use Rattle.air_record.specs.Record.{no_number}

-- the cell that an admission missed, or a dash
unfoldable pub cell_text : ℕ → List ℕ
cell_text cell = pick (eqb cell nothing_seen) (text "-") (decimal cell)

unfoldable pub admission_line : ℕ → ℕ → List ℕ
admission_line tick cell = (line_of [] tick (text " ") ++ cell_text cell) ++ text "\n"

-- the bytes of the room that all of it is written in
abbrev pub report_room : ℕ
report_room = 65_536

-- the lines of the first n ticks of a record, one for each admission that is judged
unfoldable pub lines_to : Life → List ℕ → ℕ → List ℕ
lines_to L r zero = []
lines_to L r (suc a) = lines_to L r a ++ pick (is_judged L r a) (admission_line a (result_of L r a)) []

-- of those that are judged, how many played through and how many did not, and how many begin in the record but outlast it
unfoldable pub total_lines : Judgement → List ℕ
total_lines g =
    (line_of (text "played through ") g.played (text "\n") ++ line_of (text "starved ") (g.judged - g.played) (text "\n"))
    ++ line_of (text "outlast the record ") g.outlast (text "\n")

-- what is printed of a record, with room for as many results as a record may have ticks
unfoldable pub air_text : ℕ → List ℕ → ℕ → List ℕ → List ℕ
air_text pool log title r =
    pick (eqb (air_answer pool log title r ticks_max) done)
    (lines_to (life_in pool log title) r (ticks_in r) ++ total_lines (judgement_of (life_in pool log title) r))
    (refusal_text (air_answer pool log title r ticks_max) 0 ++ text "\n")

-- what is wrong with a text of a record, and where: a word that is no number and its place in a line, or a line and how many it has
unfoldable pub place_text : List ℕ → ℕ → List ℕ → ℕ → List ℕ
place_text wrong line between words = line_of wrong line between ++ decimal words

unfoldable pub record_fault : Scan → List ℕ
record_fault s =
    pick (eqb s.fault no_number) (place_text (text ": no number at line ") s.line (text ", word ") s.words)
    (place_text (text ": not twelve numbers at line ") s.line (text ", but ") s.words)
