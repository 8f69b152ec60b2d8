-- What bytes read as (01, "Notices"), where the fields of a notice stand (`notice_bytes` specs/Standing).
use Rattle.std.specs.Prelude.{ℕ, ◌+◌, ◌≡◌, not, List, [], ◌∷◌, eqb, leb, length}
use Rattle.rules.specs.Refusals.{pick, first_hit, refuse, done, malformed}
use Rattle.notice_fields.specs.Fields.{sequence_row, title_row, time_row, length_row, floor_row, cap_row, count_row, open_kind}
use Rattle.notice_fields.specs.Fields.{change_kind, close_kind, hold_kind, skip_kind, length_of}
unfoldable pub use Rattle.notice_bytes.specs.Standing.{head_stands, row_stands, stands_to, value_at}
pub use Rattle.notice_bytes.specs.Standing.{kind_at, is_whole, is_alone}
use Rattle.notice.specs.declared.Notice.{Notice}
use Rattle.notice.specs.declared.Kind.{Kind}
use Rattle.notice.specs.declared.Kind.TheVariants.{Open, Change, Close, Hold, Lift, Skip}
use Rattle.notice.specs.declared.Reading.{Reading}
use Rattle.notice.specs.declared.Reading.TheVariants as reading
use Rattle.notice.specs.declared.Found.{Found}
use Rattle.notice.specs.declared.Found.TheVariants as found

-- each kind carries only its own data
unfoldable pub kind_in : List ℕ → ℕ → ℕ → Kind
kind_in bs p k =
    pick (eqb k open_kind)
    (Open (value_at bs p k length_row) (value_at bs p k floor_row) (value_at bs p k cap_row) (value_at bs p k count_row))
    (pick (eqb k change_kind) (Change (value_at bs p k count_row))
    (pick (eqb k skip_kind) (Skip (value_at bs p k length_row) (value_at bs p k count_row))
    (pick (eqb k close_kind) Close
    (pick (eqb k hold_kind) Hold
    Lift))))

unfoldable pub notice_in : List ℕ → ℕ → ℕ → Notice
notice_in bs p k =
    record {
      sequence = value_at bs p k sequence_row;
      title = value_at bs p k title_row;
      time = value_at bs p k time_row;
      kind = kind_in bs p k;
    }

-- reading a log at a place: the notice and the place after it, "end" with no byte left or past the end, or not well formed
unfoldable pub read_at : List ℕ → ℕ → Found
read_at bs p =
    pick (leb (length bs) p) found.End
    (pick (is_whole bs p) (found.At (notice_in bs p (kind_at bs p)) (p + length_of (kind_at bs p)))
    found.Malformed)

-- after "end" and after 11 the place stays
abbrev pub place_after : Found → ℕ → ℕ
place_after (found.At n e) p = e
place_after found.End p = p
place_after found.Malformed p = p

-- what a part of a log has, with the place after it counted in the log: the part begins d bytes further on
abbrev pub further : ℕ → Found → Found
further d (found.At n e) = found.At n (d + e)
further d found.End = found.End
further d found.Malformed = found.Malformed

-- one notice and nothing after it
unfoldable pub read_of : List ℕ → Reading
read_of bs = pick (is_alone bs) (reading.Whole (notice_in bs 0 (kind_at bs 0))) reading.Malformed

-- 01's number for each case of a reading
abbrev pub number_of : Reading → ℕ
number_of (reading.Whole n) = done
number_of reading.Malformed = malformed

-- a log has one answer more, which is no refusal
pub data Answer : Type 0 where
  number : ℕ → Answer
  end : Answer

abbrev pub answer_of : Found → Answer
answer_of (found.At n e) = number done
answer_of found.End = end
answer_of found.Malformed = number malformed

-- what the two calls promise: the case with its values, and 01's number for it
pub record Reads (bs : List ℕ) (r : Reading) : Type 0 where
  pub is : r ≡ read_of bs
  pub answers : number_of r ≡ first_hit (refuse malformed (not (is_alone bs)) ∷ [])

pub record Finds (bs : List ℕ) (p : ℕ) (r : Found) : Type 0 where
  pub is : r ≡ read_at bs p
  pub answers : answer_of r
      ≡ pick (leb (length bs) p) end (number (first_hit (refuse malformed (not (is_whole bs p)) ∷ [])))

-- what a reader's step promises: the answer at its place, and the place that it keeps
pub record Steps (bs : List ℕ) (p : ℕ) (r : Found) (after : ℕ) : Type 0 where
  pub finds : Finds bs p r
  pub moves : after ≡ place_after r p
