-- Words with what they are read as, and milliseconds with what is written for them, computed.
use Prim.Native.Nat.{ℕ, suc}
use Prim.Native.String.{String}
use mathlib.Core.Path.{◌≡◌, refl}
use mathlib.Core.List.{List, [], ◌∷◌}
use Rattle.rules.specs.Refusals.{pick}
use Rattle.text.specs.Bytes.{is_sort, run}
use Rattle.text.specs.Digits.{digits, decimal}
use Rattle.text.specs.Numbers.{amount}
use Rattle.text.specs.Texts.{text}
use Rattle.clocks.specs.Clocks.{
  clock_text,
  is_part,
  is_thousandths,
  is_tail,
  is_clock,
  pair_at,
  tail_ms,
  clock_ms,
}

-- 0 for a word that is no time, and one more than its milliseconds for one that is
unfoldable pub read_as : List String → List ℕ
unfolding text is_sort run amount is_part is_thousandths is_tail is_clock pair_at tail_ms clock_ms
read_as [] = []
read_as (w ∷ rest) = pick (is_clock (text w)) (suc (clock_ms (text w))) 0 ∷ read_as rest

pub times_read : read_as
    ("0:00" ∷ "1:30" ∷ "001:30:59" ∷ "23:59:59.999" ∷ "1:60" ∷ "1:5" ∷ ":30" ∷ "1:30:" ∷ "1:30:00.5" ∷ "1:30.500" ∷ "1:30:00.500x" ∷ [])
    ≡ 1 ∷ 5400001 ∷ 5459001 ∷ 86400000 ∷ 0 ∷ 0 ∷ 0 ∷ 0 ∷ 0 ∷ 0 ∷ 0 ∷ []
unfolding read_as text is_sort run amount is_part is_thousandths is_tail is_clock pair_at tail_ms clock_ms
times_read = refl

unfoldable pub written_as : List ℕ → List (List ℕ)
unfolding digits decimal clock_text
written_as [] = []
written_as (ms ∷ rest) = clock_text ms ∷ written_as rest

pub times_written : written_as (0 ∷ 5400000 ∷ 90061007 ∷ 18446744073709551615 ∷ [])
    ≡ text "0:00:00" ∷ text "1:30:00" ∷ text "25:01:01.007" ∷ text "5124095576030:25:51.615" ∷ []
unfolding written_as digits decimal clock_text text
times_written = refl
