-- Laws of a time's reading: the digits of its parts, what stands behind its hours, and its milliseconds held at the top.
use Prim.Native.Nat.{ℕ, ◌+◌, ◌-◌, ◌*◌, ◌/◌, ◌<◌, ◌≤◌, min}
use mathlib.Core.Path.{◌≡◌, ap, ◌∙◌}
use mathlib.Core.Bool.{true, false}
use mathlib.Core.List.{List}
use native.Mathlib.Omega.{arith}
use borrow.Author.Tests.{lt-ltb, le-ltb, eq-eqb, ne_eqb}
use lib.ListN.{length, get_or, drop, take, length-drop}
use lib.Seq.{take_all}
use Rattle.text.specs.declared.bytes.Sort.TheVariants.{Digit}
use Rattle.text.specs.declared.numbers.Number.{Number}
use Rattle.text.specs.Bytes.{digit_of, run, run_end}
use Rattle.text.specs.Numbers.{top, amount, capped}
use Rattle.clocks.specs.Clocks.{hour_ms, minute_ms, second_ms, is_tail, is_clock, pair_at, tail_ms, clock_ms}

-- ---- the parts

pub pair_is : (t : List ℕ) (i d e : ℕ) → d ≡ digit_of (get_or t i 0) → e ≡ digit_of (get_or t (i + 1) 0) → 10 * d + e ≡ pair_at t i
unfolding pair_at
pair_is t i d e p q = rw (p, q)

pub tail_is : (t : List ℕ) (m s h r : ℕ) → m ≡ pair_at t 1 → s ≡ pair_at t 4 → h ≡ digit_of (get_or t 7 0) → r ≡ pair_at t 8
    → minute_ms * m + second_ms * s + (100 * h + r) ≡ tail_ms t
unfolding tail_ms
tail_is t m s h r a b c d = rw (a, b, c, d)

-- ---- what stands behind the hours

module _ (w : List ℕ) (n : ℕ) (e : n ≡ run_end Digit w 0) where
  from_start : n ≡ run Digit w
  unfolding run_end
  from_start = omega (arith, e)

  -- lent as a part of the word
  pub rest_of : take (length w - n) (drop n w) ≡ drop (run Digit w) w
  rest_of =
      let most : length (drop n w) ≤ length w - n = rw length-drop (omega arith) in
      take_all (length w - n) (drop n w) most ∙ ap (λ (k : ℕ). drop k w) from_start

  pub no_hours : n ≡ 0 → false ≡ is_clock w
  unfolding is_clock
  no_hours z = rw (← from_start, eq-eqb _ _ z)

  pub by_tail : (n ≡ 0 → ⊥) → is_tail (drop (run Digit w) w) ≡ is_clock w
  unfolding is_clock
  by_tail z = rw (ne_eqb _ _ (λ (q : run Digit w ≡ 0). z (from_start ∙ q)))

-- ---- the milliseconds, held at the top

module _ (w : List ℕ) (h : Number) (r : ℕ) (e : h ≡ capped (amount 0 w)) (f : r ≡ tail_ms (drop (run Digit w) w)) (small : r < top) where
  held : h.value ≡ min (amount 0 w) top
  unfolding capped
  held = ap (λ (m : Number). m.value) e

  pub clock_over : (top - r) / hour_ms < h.value → record { value = top; over = true } ≡ capped (clock_ms w)
  unfolding capped clock_ms
  clock_over l =
      let far : top < hour_ms * amount 0 w + r = omega (arith, held) in
      let most : min (hour_ms * amount 0 w + r) top ≡ top = omega arith in
      rw (← f, most, lt-ltb _ _ far)

  pub clock_in : h.value ≤ (top - r) / hour_ms → record { value = hour_ms * h.value + r; over = false } ≡ capped (clock_ms w)
  unfolding capped clock_ms
  clock_in l =
      let all : h.value ≡ amount 0 w = omega (arith, held) in
      let fits : hour_ms * amount 0 w + r ≤ top = omega (arith, all) in
      let most : min (hour_ms * amount 0 w + r) top ≡ hour_ms * amount 0 w + r = omega arith in
      rw (← f, most, le-ltb _ _ fits, all)
