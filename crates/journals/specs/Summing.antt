-- The sums of a journal's notices made anew, of as much of it as a window decides and as there is room for.
use Rattle.std.specs.Prelude.{ℕ, zero, suc, ◌+◌, ◌*◌, ◌≤◌, ◌<◌, ◌≡◌, Bool, true, false, ◌⊎◌, List, [], ◌++◌, length}
use Rattle.std.proofs.lemmas.List.Edits.{sets}
use Rattle.sums.specs.Crc.{sum_of}
use Rattle.notice_fields.specs.Numbers.{big_endian}
use Rattle.notice.specs.Decode.{read_at}
use Rattle.notice.specs.Log.{place_to, is_notice}
use Rattle.journals.specs.Start.{sum_bytes, is_far}
use Rattle.journals.specs.Outcome.{notice_bytes}

-- the sums of a log's first n notices
unfoldable pub sums_to : List ℕ → ℕ → List ℕ
sums_to bs zero = []
sums_to bs (suc n) = sums_to bs n ++ big_endian sum_bytes (sum_of (notice_bytes bs n))

-- what is laid at the start of a lent row: the sums of the first notices, up to the first place that has none, is too near the end, or finds no room
pub record SumsLaid (bs : List ℕ) (over : Bool) (room : List ℕ) (r : ℕ) (after : List ℕ) : Type 0 where
  pub count : ℕ
  pub size : r ≡ count * sum_bytes
  pub fits : r ≤ length room
  pub whole : (i : ℕ) → i < count → is_notice (read_at bs (place_to bs i)) ≡ true
  pub far : (i : ℕ) → i < count → is_far (length bs) (place_to bs i) over ≡ true
  pub laid : after ≡ sets room 0 (sums_to bs count)
  pub stops : (is_notice (read_at bs (place_to bs count)) ≡ false)
      ⊎ ((is_far (length bs) (place_to bs count) over ≡ false) ⊎ (length room < r + sum_bytes))
