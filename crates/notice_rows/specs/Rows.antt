-- A notice as a row of numbers, one for each field of the table (01, "Notices"): kind, sequence, title, time, length, floor, cap, count.
use Rattle.std.specs.Prelude.{ℕ, ◌<◌, ◌^◌, ◌≡◌, Bool, true, false, List, eqb, ltb, length, get_or}
use Rattle.rules.specs.Limits.{both}
use Rattle.rules.specs.Refusals.{pick}
use Rattle.rules.specs.Search.{every}
use Rattle.notice_fields.specs.Fields.{open_kind, change_kind, close_kind, hold_kind, skip_kind, rows, size_of, is_carried, is_known}
use Rattle.notice_fields.specs.Fields.{kind_row, sequence_row, title_row, time_row, length_row, floor_row, cap_row, count_row}
use Rattle.notice.specs.declared.Notice.{Notice}
use Rattle.notice.specs.declared.Kind.{Kind}
use Rattle.notice.specs.declared.Kind.TheVariants.{Open, Change, Close, Hold, Lift, Skip}
use Rattle.notice.specs.Encode.{values_in}

-- the row of a notice: what goes into each field, 0 where its kind has no such field
abbrev pub fields_of : Notice → List ℕ
fields_of n = values_in n

-- ---- the notice of a row

-- the number at a field's place, and the kind's
abbrev pub field_in : List ℕ → ℕ → ℕ
field_in row i = get_or row i 0

abbrev pub kind_number : List ℕ → ℕ
kind_number row = field_in row kind_row

-- each kind carries only its own data
unfoldable pub kind_from : ℕ → List ℕ → Kind
kind_from k row =
    pick (eqb k open_kind)
    (Open (field_in row length_row) (field_in row floor_row) (field_in row cap_row) (field_in row count_row))
    (pick (eqb k change_kind) (Change (field_in row count_row))
    (pick (eqb k skip_kind) (Skip (field_in row length_row) (field_in row count_row))
    (pick (eqb k close_kind) Close
    (pick (eqb k hold_kind) Hold
    Lift))))

unfoldable pub notice_from : List ℕ → Notice
notice_from row =
    record {
      sequence = field_in row sequence_row;
      title = field_in row title_row;
      time = field_in row time_row;
      kind = kind_from (kind_number row) row;
    }

-- ---- which rows are a notice's

-- the bytes of field i hold the number at its place; nothing is asked where kind k has no such field
unfoldable pub fits_field : ℕ → List ℕ → ℕ → Bool
fits_field k row i = pick (is_carried k i) (ltb (field_in row i) (256 ^ size_of i)) true

-- a known kind, and each of its fields holds its number
unfoldable pub is_notice_row : List ℕ → Bool
is_notice_row row = both (is_known (kind_number row)) (every (fits_field (kind_number row) row) rows)

-- a row that is a notice's to the number: it has one for each field, and 0 where its kind has none
pub record NoticeRow (row : List ℕ) : Type 0 where
  pub places : length row ≡ rows
  pub is_notice_holds : is_notice_row row ≡ true
  pub bare : (i : ℕ) → i < rows → is_carried (kind_number row) i ≡ false → field_in row i ≡ 0
