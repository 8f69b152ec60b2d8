-- What the calls over rows answer and leave. First match wins: `write` 10 1, `read` 10 11, `next` 10 11 with a number for the end.
use Rattle.std.specs.Prelude.{ℕ, ◌≡◌, Bool, not, List, [], ◌∷◌, ◌++◌, eqb, ltb, length, drop}
use Rattle.rules.specs.Limits.{either}
use Rattle.rules.specs.Refusals.{pick, Rule, refuse, first_hit, done, outside_limits, wrong_rows, malformed}
use Rattle.notice_fields.specs.Fields.{rows, length_of}
use Rattle.notice.specs.declared.Reading.{Reading}
use Rattle.notice.specs.declared.Reading.TheVariants as reading
use Rattle.notice.specs.declared.Found.{Found}
use Rattle.notice.specs.declared.Found.TheVariants as found
use Rattle.notice.specs.Encode.{bytes_of}
use Rattle.notice.specs.Decode.{is_alone, read_of, read_at, place_after, Answer, number, end, answer_of}
use Rattle.notice_rows.specs.declared.Written.{Written}
use Rattle.notice_rows.specs.declared.Step.{Step}
use Rattle.notice_rows.specs.Rows.{fields_of, kind_number, notice_from, is_notice_row}

-- ---- write

-- the row has not a number for each field, or the room is shorter than its kind's notice: a number that is no kind's needs no room
abbrev pub is_cramped : List ℕ → List ℕ → Bool
is_cramped row room = either (not (eqb (length row) rows)) (ltb (length room) (length_of (kind_number row)))

abbrev pub write_order : List ℕ → List ℕ → List Rule
write_order row room =
    refuse wrong_rows (is_cramped row room)
    ∷ refuse outside_limits (not (is_notice_row row))
    ∷ []

-- no byte was written
abbrev pub unwritten : ℕ → Written
unwritten n = record { answer = n; bytes = 0 }

-- the notice's bytes at the start of the room and how many they are, or nothing
pub record WritesRow (row room : List ℕ) (r : Written) (after : List ℕ) : Type 0 where
  pub answers : r.answer ≡ first_hit (write_order row room)
  pub counts : r.bytes ≡ pick (eqb r.answer done) (length (bytes_of (notice_from row))) 0
  pub leaves : after
      ≡ pick (eqb r.answer done) (bytes_of (notice_from row) ++ drop (length (bytes_of (notice_from row))) room) room

-- ---- read

abbrev pub is_short_row : List ℕ → Bool
is_short_row row = ltb (length row) rows

-- a notice goes into the first places of the row
abbrev pub row_read_of : Reading → List ℕ → List ℕ
row_read_of (reading.Whole n) row = fields_of n ++ drop rows row
row_read_of reading.Malformed row = row

pub record ReadsRow (bs row : List ℕ) (answer : ℕ) (after : List ℕ) : Type 0 where
  pub answers : answer ≡ first_hit (refuse wrong_rows (is_short_row row) ∷ refuse malformed (not (is_alone bs)) ∷ [])
  pub leaves : after ≡ pick (is_short_row row) row (row_read_of (read_of bs) row)

-- ---- next

-- the number for a log's end, which is no refusal's
abbrev pub log_end : ℕ
log_end = 255

abbrev pub answer_number : Answer → ℕ
answer_number (number n) = n
answer_number end = log_end

abbrev pub row_found : Found → List ℕ → List ℕ
row_found (found.At n e) row = fields_of n ++ drop rows row
row_found found.End row = row
row_found found.Malformed row = row

pub record StepsRow (log : List ℕ) (p : ℕ) (row : List ℕ) (r : Step) (after : List ℕ) : Type 0 where
  pub answers : r.answer ≡ pick (is_short_row row) wrong_rows (answer_number (answer_of (read_at log p)))
  pub moves : r.place ≡ pick (is_short_row row) p (place_after (read_at log p) p)
  pub leaves : after ≡ pick (is_short_row row) row (row_found (read_at log p) row)
