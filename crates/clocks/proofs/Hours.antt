-- Laws of the hours of a written time: their digits end where the first colon stands, and read back as the hours.
use Prim.Native.Nat.{ℕ, zero, suc, ◌+◌, ◌/◌, ◌%◌, ◌^◌, ◌<◌, ◌≤◌}
use mathlib.Core.Path.{◌≡◌, refl}
use mathlib.Core.Bool.{Bool, true, false}
use mathlib.Core.List.{List, [], ◌∷◌, ◌++◌}
use native.Mathlib.Omega.{arith}
use borrow.Author.Tests.{le-leb}
use lib.ListN.{length, drop, length-append}
use lib.Seq.{drop-append_seam}
use lib.Dec.{ltb}
use Rattle.rules.specs.Refusals.{pick}
use Rattle.text.specs.declared.bytes.Sort.TheVariants.{Digit}
use Rattle.text.specs.Bytes.{digit, is_sort, run}
use Rattle.text.specs.Digits.{digits_most, digits, decimal}
use Rattle.text.specs.Numbers.{amount}
use Rattle.text.proofs.Printing.{read_digits}
use Rattle.clocks.specs.Clocks.{colon, last_digit}

-- the last digit of a number is one
pub last_is_digit : (n : ℕ) → digit (last_digit n) ≡ true
last_is_digit n =
    let low : 48 ≤ 48 + n % 10 = omega arith in
    let high : 48 + n % 10 ≤ 57 = omega arith in
    rw (le-leb _ _ low, le-leb _ _ high)

-- what follows digits stands behind them
digits_then : (f n : ℕ) (s t : List ℕ) → digits f n s ++ t ≡ digits f n (s ++ t)
unfolding digits
digits_then zero n s t = refl
digits_then (suc f) n s t = go (ltb n 10) (digits_then f (n / 10) ((48 + n % 10) ∷ s) t)
  where
    go : (b : Bool)
        → digits f (n / 10) ((48 + n % 10) ∷ s) ++ t ≡ digits f (n / 10) ((48 + n % 10) ∷ s ++ t)
        → pick b ((48 + n % 10) ∷ s) (digits f (n / 10) ((48 + n % 10) ∷ s)) ++ t
        ≡ pick b ((48 + n % 10) ∷ s ++ t) (digits f (n / 10) ((48 + n % 10) ∷ s ++ t))
    go true e = refl
    go false e = e

-- a run of digits goes over all that are printed
run_over : (f n : ℕ) (s : List ℕ) → run Digit (digits f n s) + length s ≡ length (digits f n s) + run Digit s
unfolding digits run is_sort
run_over zero n s = omega arith
run_over (suc f) n s = go (ltb n 10) (run_over f (n / 10) ((48 + n % 10) ∷ s))
  where
    one : run Digit ((48 + n % 10) ∷ s) ≡ suc (run Digit s)
    one = rw (last_is_digit n)

    go : (b : Bool)
        → run Digit (digits f (n / 10) ((48 + n % 10) ∷ s)) + suc (length s)
        ≡ length (digits f (n / 10) ((48 + n % 10) ∷ s)) + run Digit ((48 + n % 10) ∷ s)
        → run Digit (pick b ((48 + n % 10) ∷ s) (digits f (n / 10) ((48 + n % 10) ∷ s))) + length s
        ≡ length (pick b ((48 + n % 10) ∷ s) (digits f (n / 10) ((48 + n % 10) ∷ s))) + run Digit s
    go true e = omega (arith, one)
    go false e = omega (arith, one, e)

-- at least one is printed
longer : (f n : ℕ) (s : List ℕ) → length s ≤ length (digits f n s)
unfolding digits
longer zero n s = omega arith
longer (suc f) n s = go (ltb n 10) (longer f (n / 10) ((48 + n % 10) ∷ s))
  where
    go : (b : Bool) → suc (length s) ≤ length (digits f (n / 10) ((48 + n % 10) ∷ s))
        → length s ≤ length (pick b ((48 + n % 10) ∷ s) (digits f (n / 10) ((48 + n % 10) ∷ s)))
    go true e = omega arith
    go false e = omega arith

pub decimal_some : (n : ℕ) → 1 ≤ length (decimal n)
unfolding decimal digits
decimal_some n = go (ltb n 10) (longer 19 (n / 10) ((48 + n % 10) ∷ []))
  where
    go : (b : Bool) → 1 ≤ length (digits 19 (n / 10) ((48 + n % 10) ∷ []))
        → 1 ≤ length (pick b ((48 + n % 10) ∷ []) (digits 19 (n / 10) ((48 + n % 10) ∷ [])))
    go true e = omega arith
    go false e = e

module _ (n : ℕ) (t : List ℕ) where
  behind : decimal n ++ colon ∷ t ≡ digits digits_most n (colon ∷ t)
  unfolding decimal
  behind = digits_then digits_most n [] (colon ∷ t)

  -- the hours' digits end at the colon
  pub hours_run : run Digit (decimal n ++ colon ∷ t) ≡ length (decimal n)
  unfolding run is_sort
  hours_run =
      let over : run Digit (decimal n ++ colon ∷ t) + suc (length t) ≡ length (decimal n ++ colon ∷ t) + 0 =
      rw behind (run_over digits_most n (colon ∷ t)) in
      omega (arith, over, length-append (decimal n) (colon ∷ t))

  pub hours_drop : drop (run Digit (decimal n ++ colon ∷ t)) (decimal n ++ colon ∷ t) ≡ colon ∷ t
  hours_drop = rw hours_run (drop-append_seam (decimal n) (colon ∷ t))

  -- and read back as the hours
  pub hours_back : n < 10 ^ digits_most → amount 0 (decimal n ++ colon ∷ t) ≡ n
  unfolding amount
  hours_back h = rw behind (read_digits digits_most n (colon ∷ t) h)
