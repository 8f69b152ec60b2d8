-- A log that comes in windows, parts of it one behind the other: which places a window decides, and where it stands in the log.
use Rattle.std.specs.Prelude.{ℕ, ◌+◌, ◌≡◌, Bool, true, not, List, [], ◌++◌, eqb, ltb, leb, length, get_or}
use Rattle.rules.specs.Limits.{both, either}
use Rattle.rules.specs.Refusals.{pick}
use Rattle.rules.specs.Search.{every}
use Rattle.notice_fields.specs.Fields.{head_size, tag_of, size_of, kind_row, is_carried, is_known, start_of, length_of, rows}
use Rattle.notice_bytes.specs.Standing.{kind_at}

-- a byte can stand at a place: it does, or is not there yet
unfoldable pub can_be : List ℕ → ℕ → ℕ → Bool
can_be bs at b = either (leb (length bs) at) (eqb (get_or bs at 0) b)

-- tag and length of row i can stand at a place; no length needs its first byte
unfoldable pub head_begins : List ℕ → ℕ → ℕ → Bool
head_begins bs at i = both (can_be bs at (tag_of i)) (both (can_be bs (at + 1) 0) (can_be bs (at + 2) (size_of i)))

-- where row i stands in a notice of kind k from place p on, its head can stand
unfoldable pub row_begins : List ℕ → ℕ → ℕ → ℕ → Bool
row_begins bs p k i = pick (is_carried k i) (head_begins bs (p + start_of k i) i) true

-- the bytes from place p on are the beginning of a notice, and it is not all there: before the kind's byte they are those that every
-- notice begins with, from then on those of the kind's heads
unfoldable pub is_beginning : List ℕ → ℕ → Bool
is_beginning bs p =
    pick (leb (length bs) (p + head_size))
    (head_begins bs p kind_row)
    (both (is_known (kind_at bs p))
    (both (ltb (length bs) (p + length_of (kind_at bs p)))
    (every (row_begins bs p (kind_at bs p)) rows)))

-- a place of the bytes read so far is decided once they are no mere beginning there, or no byte will follow
unfoldable pub is_decided : List ℕ → ℕ → Bool → Bool
is_decided bs p over = either over (not (is_beginning bs p))

-- a place of a log is seen at a place of a window, and can be decided there
pub record Seen (log : List ℕ) (place : ℕ) (window : List ℕ) (p : ℕ) : Type 0 where
  pub before : List ℕ
  pub later : List ℕ
  pub over : Bool
  pub is : log ≡ before ++ (window ++ later)
  pub there : place ≡ length before + p
  pub ended : over ≡ true → later ≡ []
  pub decided : is_decided window p over ≡ true
