-- What is written for a number of milliseconds is a time, and is read as that number. Rests on the digits of the hours
-- (`Hours`); what stands behind them has a known length, and is computed.
use Prim.Native.Nat.{ℕ, ◌+◌, ◌*◌, ◌/◌, ◌%◌, ◌^◌, ◌<◌, ◌≤◌, min}
use mathlib.Core.Path.{◌≡◌, refl, sym, ◌∙◌}
use mathlib.Core.Bool.{Bool, true, false}
use mathlib.Core.List.{List, [], ◌++◌, append_assoc}
use native.Mathlib.Omega.{arith}
use borrow.Author.Tests.{le-leb, le-ltb, ne_eqb, eqb-true}
use lib.ListN.{length, drop}
use lib.Dec.{eqb}
use Rattle.rules.specs.Limits.{within}
use Rattle.rules.specs.Refusals.{pick}
use Rattle.text.specs.declared.bytes.Sort.TheVariants.{Digit}
use Rattle.text.specs.Bytes.{digit_of, run}
use Rattle.text.specs.Digits.{digits_most, decimal}
use Rattle.text.specs.Numbers.{top, amount, capped}
use Rattle.clocks.specs.Clocks.{
  hour_ms,
  minute_ms,
  second_ms,
  last_digit,
  part_text,
  thousandths_text,
  clock_text,
  has_colon,
  is_part,
  is_thousandths,
  is_tail,
  is_clock,
  pair_at,
  tail_ms,
  clock_ms,
}
use Rattle.clocks.proofs.Colons.{colon_behind}
use Rattle.clocks.proofs.Hours.{last_is_digit, decimal_some, hours_run, hours_drop, hours_back}

-- ---- what stands behind the hours

-- minutes m, seconds s, and the part r of a second
unfoldable tail_text : ℕ → ℕ → ℕ → List ℕ
tail_text m s r = part_text m ++ part_text s ++ pick (eqb r 0) [] (thousandths_text r)

-- the first digit of a number below 60
first_is_small : (n : ℕ) → n < 60 → within 48 53 (last_digit (n / 10)) ≡ true
first_is_small n h =
    let low : 48 ≤ 48 + n / 10 % 10 = omega arith in
    let high : 48 + n / 10 % 10 ≤ 53 = omega arith in
    rw (le-leb _ _ low, le-leb _ _ high)

-- digits are worth what they were written for
worth : (n : ℕ) → digit_of (last_digit n) ≡ n % 10
worth n = omega arith

pair_back : (n : ℕ) → n < 100 → 10 * digit_of (last_digit (n / 10)) + digit_of (last_digit n) ≡ n
pair_back n h = rw (worth (n / 10), worth n) (omega arith)

three_back : (n : ℕ) → n < 1000
    → 100 * digit_of (last_digit (n / 100)) + (10 * digit_of (last_digit (n / 10)) + digit_of (last_digit n)) ≡ n
three_back n h = rw (worth (n / 100), worth (n / 10), worth n) (omega arith)

-- sums of equal parts
same_sum : {a b c d e f : ℕ} → a ≡ d → b ≡ e → c ≡ f → minute_ms * a + second_ms * b + c ≡ minute_ms * d + second_ms * e + f
same_sum p q r = rw (p, q, r)

module _ (m s r : ℕ) (few : m < 60) (short : s < 60) (small : r < 1000) where
  tail_is : is_tail (tail_text m s r) ≡ true
  unfolding is_tail is_part is_thousandths tail_text
  tail_is = go (eqb r 0)
    where
      go : (b : Bool) → is_tail (part_text m ++ part_text s ++ pick b [] (thousandths_text r)) ≡ true
      go true = simp (first_is_small m few, first_is_small s short, last_is_digit m, last_is_digit s)
      go false =
          simp (
            first_is_small m few,
            first_is_small s short,
            last_is_digit m,
            last_is_digit s,
            last_is_digit r,
            last_is_digit (r / 10),
            last_is_digit (r / 100),
          )

  tail_back : tail_ms (tail_text m s r) ≡ minute_ms * m + second_ms * s + r
  unfolding tail_ms pair_at tail_text
  tail_back = go (eqb r 0) refl
    where
      go : (b : Bool) → eqb r 0 ≡ b
          → tail_ms (part_text m ++ part_text s ++ pick b [] (thousandths_text r)) ≡ minute_ms * m + second_ms * s + r
      go true e = same_sum (pair_back m (omega arith)) (pair_back s (omega arith)) (sym (eqb-true _ _ e))
      go false e = same_sum (pair_back m (omega arith)) (pair_back s (omega arith)) (three_back r small)

-- ---- the whole

-- a written time is its hours, and what stands behind them
clock_parts : (ms : ℕ)
    → clock_text ms ≡ decimal (ms / hour_ms) ++ tail_text (ms % hour_ms / minute_ms) (ms % minute_ms / second_ms) (ms % second_ms)
unfolding clock_text tail_text
clock_parts ms = simp append_assoc

module _ (h m s r : ℕ) where
  -- what stands behind the hours begins with a colon
  behind_hours : drop (run Digit (decimal h ++ tail_text m s r)) (decimal h ++ tail_text m s r) ≡ tail_text m s r
  unfolding tail_text
  behind_hours = hours_drop h _

  some_hours : run Digit (decimal h ++ tail_text m s r) ≡ 0 → ⊥
  unfolding tail_text
  some_hours q =
      let run : run Digit (decimal h ++ tail_text m s r) ≡ length (decimal h) = hours_run h _ in
      omega (arith, decimal_some h, run, q)

  hours_are : h < 10 ^ digits_most → amount 0 (decimal h ++ tail_text m s r) ≡ h
  unfolding tail_text
  hours_are held = hours_back h _ held

  parts_are : m < 60 → s < 60 → r < 1000 → is_clock (decimal h ++ tail_text m s r) ≡ true
  unfolding is_clock
  parts_are few short small = rw (ne_eqb _ _ some_hours, behind_hours) (tail_is m s r few short small)

  parts_back : m < 60 → s < 60 → r < 1000 → h < 10 ^ digits_most
      → clock_ms (decimal h ++ tail_text m s r) ≡ hour_ms * h + (minute_ms * m + second_ms * s + r)
  unfolding clock_ms
  parts_back few short small held = rw (hours_are held, behind_hours, tail_back m s r few short small)

-- what is written is a time, and has the colon by which a line's reader knows it for one
pub written_has_colon : (ms : ℕ) → has_colon (clock_text ms) ≡ true
unfolding tail_text
written_has_colon ms = rw clock_parts (colon_behind (decimal (ms / hour_ms)) _)

pub written_is_clock : (ms : ℕ) → is_clock (clock_text ms) ≡ true
written_is_clock ms = rw clock_parts (parts_are _ _ _ _ (omega arith) (omega arith) (omega arith))

-- and it is read as the number
pub ms_back : (ms : ℕ) → ms ≤ top → clock_ms (clock_text ms) ≡ ms
ms_back ms h = rw clock_parts (parts_back _ _ _ _ (omega arith) (omega arith) (omega arith) (omega arith) ∙ omega arith)

-- so the call that reads it gives the number itself, and says that it was not too large
pub read_back : (ms : ℕ) → ms ≤ top → capped (clock_ms (clock_text ms)) ≡ record { value = ms; over = false }
unfolding capped
read_back ms h =
    let held : min ms top ≡ ms = omega arith in
    rw (ms_back ms h, held, le-ltb _ _ h)
