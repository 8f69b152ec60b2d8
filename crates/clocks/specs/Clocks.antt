-- Times as people write them (docs/CONSOLE.md, "Lines"): h:mm, h:mm:ss or h:mm:ss.mmm, where h is any count of digits, mm and
-- ss are two digits, 00 to 59, and mmm three.
use Rattle.std.specs.Prelude.{ℕ, ◌+◌, ◌*◌, ◌/◌, ◌%◌, Bool, false, List, [], ◌∷◌, ◌++◌, length, get_or, drop, eqb}
use Rattle.rules.specs.Limits.{both, either, within}
use Rattle.rules.specs.Refusals.{pick}
use Rattle.text.specs.declared.bytes.Sort.TheVariants.{Digit}
use Rattle.text.specs.Bytes.{digit, digit_of, run}
use Rattle.text.specs.Digits.{decimal}
use Rattle.text.specs.Numbers.{amount}

-- the milliseconds of an hour, a minute and a second
abbrev pub hour_ms : ℕ
hour_ms = 3_600_000

abbrev pub minute_ms : ℕ
minute_ms = 60_000

abbrev pub second_ms : ℕ
second_ms = 1_000

-- the bytes : and .
abbrev pub colon : ℕ
colon = 58

abbrev pub point : ℕ
point = 46

-- ---- written

-- the last digit of a number
abbrev pub last_digit : ℕ → ℕ
last_digit n = 48 + n % 10

-- minutes or seconds behind their colon, and thousandths behind their point
abbrev pub part_text : ℕ → List ℕ
part_text n = colon ∷ last_digit (n / 10) ∷ last_digit n ∷ []

abbrev pub thousandths_text : ℕ → List ℕ
thousandths_text n = point ∷ last_digit (n / 100) ∷ last_digit (n / 10) ∷ last_digit n ∷ []

-- milliseconds as h:mm:ss, with .mmm behind it where a part of a second is left
unfoldable pub clock_text : ℕ → List ℕ
clock_text ms =
    ((decimal (ms / hour_ms) ++ part_text (ms % hour_ms / minute_ms)) ++ part_text (ms % minute_ms / second_ms))
    ++ pick (eqb (ms % second_ms) 0) [] (thousandths_text (ms % second_ms))

-- ---- read

-- a word has a colon in it
unfoldable pub has_colon : List ℕ → Bool
has_colon [] = false
has_colon (b ∷ w) = either (eqb b colon) (has_colon w)

-- a colon and two digits, 00 to 59, stand at a place of what follows the hours
unfoldable pub is_part : List ℕ → ℕ → Bool
is_part t i = both (eqb (get_or t i 0) colon) (both (within 48 53 (get_or t (i + 1) 0)) (digit (get_or t (i + 2) 0)))

-- a point and three digits stand behind minutes and seconds
unfoldable pub is_thousandths : List ℕ → Bool
is_thousandths t =
    both (eqb (get_or t 6 0) point) (both (digit (get_or t 7 0)) (both (digit (get_or t 8 0)) (digit (get_or t 9 0))))

-- what stands behind the hours is :mm, :mm:ss or :mm:ss.mmm
unfoldable pub is_tail : List ℕ → Bool
is_tail t =
    both (is_part t 0)
    (either (eqb (length t) 3)
    (both (is_part t 3) (either (eqb (length t) 6) (both (eqb (length t) 10) (is_thousandths t)))))

-- a word is a time in one of the three forms
unfoldable pub is_clock : List ℕ → Bool
is_clock w = pick (eqb (run Digit w) 0) false (is_tail (drop (run Digit w) w))

-- the number of the two digits at a place; past the end stands 0
unfoldable pub pair_at : List ℕ → ℕ → ℕ
pair_at t i = 10 * digit_of (get_or t i 0) + digit_of (get_or t (i + 1) 0)

-- the milliseconds of what stands behind the hours
unfoldable pub tail_ms : List ℕ → ℕ
tail_ms t = minute_ms * pair_at t 1 + second_ms * pair_at t 4 + (100 * digit_of (get_or t 7 0) + pair_at t 8)

-- the milliseconds of a time in one of the three forms
unfoldable pub clock_ms : List ℕ → ℕ
clock_ms w = hour_ms * amount 0 w + tail_ms (drop (run Digit w) w)
