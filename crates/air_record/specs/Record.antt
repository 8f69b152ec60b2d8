-- The record that a text spells (02, request 13's program): a tick a line, for each lane a number or `-` for nothing seen, with
-- spaces, tabs or carriage returns between.
use Rattle.std.specs.Prelude.{ℕ, zero, suc, ◌+◌, ◌*◌, min, true, false, List, eqb, ltb, length, get_or}
use Rattle.rules.specs.Limits.{either, lane_places}
use Rattle.rules.specs.Refusals.{pick}
use Rattle.text.specs.Bytes.{newline, separator, digit, digit_of}
use Rattle.text.specs.Numbers.{top}
use Rattle.text.specs.Output.{page, put}
use Rattle.judging.specs.Record.{nothing_seen}
use Rattle.air_record.specs.declared.record.Scan.{Scan}

-- a number that 16 bits do not hold is handed on as this, which is no title's cell either
abbrev pub no_cell : ℕ
no_cell = 65_534

unfoldable pub cell_spelt : ℕ → ℕ
cell_spelt v = pick (ltb nothing_seen v) no_cell v

-- the byte that stands for nothing seen
abbrev pub dash : ℕ
dash = 45

-- what is wrong: nothing, a word that is no number, a line that has not a number for each lane
abbrev pub sound : ℕ
sound = 0

abbrev pub no_number : ℕ
no_number = 1

abbrev pub not_twelve : ℕ
not_twelve = 2

-- one more line or word, as far as 64 bits count them
unfoldable pub one_more_of : ℕ → ℕ
one_more_of n = min (n + 1) top

-- a text as far as it was read, with the row that its numbers go into
pub record SoFar : Type 0 where
  pub row : List ℕ
  pub scan : Scan

abbrev pub so_far : List ℕ → Scan → SoFar
so_far row scan = record { row = row; scan = scan }

-- at first: no number, none being spelt, at line 1
abbrev pub nothing_read : Scan
nothing_read = record { count = 0; value = 0; inside = false; dash = false; words = 0; line = 1; fault = sound }

-- the word ends: its number goes into the row, where there is room for it
unfoldable pub ending_cell : SoFar → SoFar
ending_cell s =
    pick s.scan.inside
    (so_far (put (page s.row s.scan.count) (cell_spelt s.scan.value)).row
    (record {
      count = (put (page s.row s.scan.count) (cell_spelt s.scan.value)).at;
      value = 0;
      inside = false;
      dash = false;
      words = one_more_of s.scan.words;
      line = s.scan.line;
      fault = s.scan.fault;
    }))
    s

-- so does the line behind it, with a number for each lane, or none
unfoldable pub closing : Scan → Scan
closing s =
    pick (either (eqb s.words 0) (eqb s.words lane_places))
    (record {
      count = s.count;
      value = s.value;
      inside = s.inside;
      dash = s.dash;
      words = 0;
      line = one_more_of s.line;
      fault = s.fault;
    })
    (record {
      count = s.count;
      value = s.value;
      inside = s.inside;
      dash = s.dash;
      words = s.words;
      line = s.line;
      fault = not_twelve;
    })

-- a word that is no number, with its place in the line
unfoldable pub failing : Scan → Scan
failing s =
    record {
      count = s.count;
      value = s.value;
      inside = s.inside;
      dash = s.dash;
      words = one_more_of s.words;
      line = s.line;
      fault = no_number;
    }

-- a digit more of a number, and a dash
unfoldable pub longer : Scan → ℕ → Scan
longer s b =
    record {
      count = s.count;
      value = min (10 * s.value + digit_of b) top;
      inside = true;
      dash = s.dash;
      words = s.words;
      line = s.line;
      fault = s.fault;
    }

unfoldable pub dashed : Scan → Scan
dashed s =
    record {
      count = s.count;
      value = nothing_seen;
      inside = true;
      dash = true;
      words = s.words;
      line = s.line;
      fault = s.fault;
    }

-- one byte more of a word: a digit, but not behind a dash, or a dash, but behind nothing
unfoldable pub spelling : Scan → ℕ → Scan
spelling s b =
    pick (digit b) (pick s.dash (failing s) (longer s b))
    (pick (eqb b dash) (pick s.inside (failing s) (dashed s)) (failing s))

-- one byte more of a text; the first fault ends it
unfoldable pub taking_byte : SoFar → ℕ → SoFar
taking_byte s b =
    pick (eqb s.scan.fault sound)
    (pick (eqb b newline) (so_far (ending_cell s).row (closing (ending_cell s).scan))
    (pick (separator b) (ending_cell s) (so_far s.row (spelling s.scan b))))
    s

-- the first n bytes
unfoldable pub taken_to : List ℕ → List ℕ → ℕ → SoFar
taken_to text row zero = so_far row nothing_read
taken_to text row (suc n) = taking_byte (taken_to text row n) (get_or text n 0)

-- and all, whose end ends the last line
abbrev pub all_taken : List ℕ → List ℕ → SoFar
all_taken text row = taking_byte (taken_to text row (length text)) newline
