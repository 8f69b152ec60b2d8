-- When the fields of a notice stand in bytes (01, "Notices"), decided field by field from the table, and the values that they have.
use Rattle.std.specs.Prelude.{ℕ, zero, suc, ◌+◌, Bool, true, List, eqb, leb, length, get_or}
use Rattle.rules.specs.Limits.{both}
use Rattle.rules.specs.Refusals.{pick}
use Rattle.notice_fields.specs.Fields.{head_size, tag_of, size_of, is_carried, is_known, start_of, length_of, rows}
use Rattle.notice_fields.specs.Numbers.{number_at}

-- tag and length of row i stand at a place
unfoldable pub head_stands : List ℕ → ℕ → ℕ → Bool
head_stands bs at i = both (eqb (get_or bs at 0) (tag_of i)) (eqb (number_at bs (at + 1) 2) (size_of i))

-- nothing is asked of a row that the kind does not carry
unfoldable pub row_stands : List ℕ → ℕ → ℕ → ℕ → Bool
row_stands bs at k i = pick (is_carried k i) (head_stands bs at i) true

-- the first rows of a notice of kind k stand one after the other from place p on
unfoldable pub stands_to : List ℕ → ℕ → ℕ → ℕ → Bool
stands_to bs p k zero = true
stands_to bs p k (suc i) = both (stands_to bs p k i) (row_stands bs (p + start_of k i) k i)

-- the value of row i in a notice of kind k that starts at place p
unfoldable pub value_at : List ℕ → ℕ → ℕ → ℕ → ℕ
value_at bs p k i = number_at bs (p + start_of k i + head_size) (size_of i)

-- the kind's number is the value of the first field
abbrev pub kind_at : List ℕ → ℕ → ℕ
kind_at bs p = get_or bs (p + head_size) 0

-- a whole notice stands at place p: a known kind, as many bytes as its notices have, and all its fields
abbrev pub is_whole : List ℕ → ℕ → Bool
is_whole bs p =
    both (is_known (kind_at bs p))
    (both (leb (p + length_of (kind_at bs p)) (length bs))
    (stands_to bs p (kind_at bs p) rows))

-- one notice and nothing after it
abbrev pub is_alone : List ℕ → Bool
is_alone bs = both (is_whole bs 0) (eqb (length_of (kind_at bs 0)) (length bs))
