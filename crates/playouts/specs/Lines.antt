-- What is printed: a line for each tick with a number for each lane, `-` for nothing, and spaces between; or a refusal's number and its
-- meaning.
use Rattle.std.specs.Prelude.{ℕ, zero, suc, ◌*◌, ◌%◌, List, [], ◌++◌, eqb}
use Rattle.rules.specs.Limits.{lane_max, lane_places}
use Rattle.rules.specs.Refusals.{pick, done}
use Rattle.text.specs.Texts.{text}
use Rattle.text.specs.Digits.{decimal}
use Rattle.words.specs.Words.{refusal_text}
use Rattle.judging.specs.Record.{nothing_seen}
use Rattle.playouts.specs.Playout.{playout_answer, playout_number}

-- the cell that a lane carries, or a dash
unfoldable pub carried_text : ℕ → List ℕ
carried_text n = pick (eqb n nothing_seen) (text "-") (decimal n)

-- what stands behind the number at a place: a space, and behind the last lane's the end of the line
unfoldable pub behind_place : ℕ → List ℕ
behind_place j = pick (eqb (j % lane_places) lane_max) (text "\n") (text " ")

unfoldable pub place_line : (ℕ → ℕ) → ℕ → List ℕ
place_line f j = carried_text (f j) ++ behind_place j

-- the numbers of the first n places
unfoldable pub number_lines : (ℕ → ℕ) → ℕ → List ℕ
number_lines f zero = []
number_lines f (suc j) = number_lines f j ++ place_line f j

-- the line of a refusal
unfoldable pub refused_line : ℕ → List ℕ
refused_line answer = refusal_text answer 0 ++ text "\n"

-- what is printed of a title in a log, from a tick of its latest opening on, for so many ticks
unfoldable pub playout_text : ℕ → List ℕ → ℕ → ℕ → ℕ → List ℕ
playout_text pool log title from ticks =
    pick (eqb (playout_answer pool log title from ticks) done)
    (number_lines (playout_number pool log title from) (ticks * lane_places))
    (refused_line (playout_answer pool log title from ticks))

-- the bytes of a room that every such text fits into
abbrev pub playout_room : ℕ
playout_room = 1_048_576
