-- The field table (01, "Notices"; hold and lift by 02, request 7, the opening of a skip-forward title by request 12), and
-- what follows from it. A later kind is a bit in the rows that it carries.
use Rattle.std.specs.Prelude.{ℕ, zero, suc, ◌+◌, ◌/◌, ◌%◌, ◌^◌, Bool, List, [], ◌∷◌, eqb, get_or}
use Rattle.rules.specs.Refusals.{pick}
use Rattle.notice_fields.specs.declared.fields.Field.{Field}

-- the kinds by their numbers
abbrev pub open_kind : ℕ
open_kind = 1

abbrev pub change_kind : ℕ
change_kind = 2

abbrev pub close_kind : ℕ
close_kind = 3

abbrev pub hold_kind : ℕ
hold_kind = 4

abbrev pub lift_kind : ℕ
lift_kind = 5

abbrev pub skip_kind : ℕ
skip_kind = 6

-- they are numbered from open on; this is the last
abbrev pub last_kind : ℕ
last_kind = skip_kind

-- one row: the tag, the bytes of its value, and the sum of 2 ^ k over the kinds k that carry it
abbrev pub field_row : ℕ → ℕ → ℕ → Field
field_row t s ks = record { tag = t; size = s; kinds = ks }

abbrev pub all_kinds : ℕ
all_kinds = 2 ^ open_kind + 2 ^ change_kind + 2 ^ close_kind + 2 ^ hold_kind + 2 ^ lift_kind + 2 ^ skip_kind

-- kind, sequence, title id, time, length, floor, cap, count
unfoldable pub table : List Field
table =
    field_row 1 1 all_kinds
    ∷ field_row 2 4 all_kinds
    ∷ field_row 3 1 all_kinds
    ∷ field_row 4 8 all_kinds
    ∷ field_row 5 4 (2 ^ open_kind + 2 ^ skip_kind)
    ∷ field_row 6 1 (2 ^ open_kind)
    ∷ field_row 7 1 (2 ^ open_kind)
    ∷ field_row 8 1 (2 ^ open_kind + 2 ^ change_kind + 2 ^ skip_kind)
    ∷ []

-- the rows by what they hold, the first being the kind
abbrev pub kind_row : ℕ
kind_row = 0

abbrev pub sequence_row : ℕ
sequence_row = 1

abbrev pub title_row : ℕ
title_row = 2

abbrev pub time_row : ℕ
time_row = 3

abbrev pub length_row : ℕ
length_row = 4

abbrev pub floor_row : ℕ
floor_row = 5

abbrev pub cap_row : ℕ
cap_row = 6

abbrev pub count_row : ℕ
count_row = 7

-- how many rows the table has
abbrev pub rows : ℕ
rows = 8

abbrev pub field_of : ℕ → Field
field_of i = get_or table i (field_row 0 0 0)

abbrev pub tag_of : ℕ → ℕ
tag_of i = (field_of i).tag

abbrev pub size_of : ℕ → ℕ
size_of i = (field_of i).size

-- kind k has the field of row i
abbrev pub is_carried : ℕ → ℕ → Bool
is_carried k i = eqb ((field_of i).kinds / 2 ^ k % 2) 1

-- a field is a tag of one byte, a length of two, and its value
abbrev pub head_size : ℕ
head_size = 3

-- the bytes that row i takes in a notice of kind k
unfoldable pub span_of : ℕ → ℕ → ℕ
span_of k i = pick (is_carried k i) (head_size + size_of i) 0

-- where row i stands in a notice of kind k: after the rows before it
unfoldable pub start_of : ℕ → ℕ → ℕ
start_of k zero = 0
start_of k (suc i) = start_of k i + span_of k i

-- a kind that the table knows is one that carries the first row, and its notices are this long
abbrev pub is_known : ℕ → Bool
is_known k = is_carried k kind_row

abbrev pub length_of : ℕ → ℕ
length_of k = start_of k rows

-- no notice is longer than an open
abbrev pub longest_notice : ℕ
longest_notice = length_of open_kind
