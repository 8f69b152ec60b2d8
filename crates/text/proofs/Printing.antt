-- Laws of digits: the store of a digit before those already there, and that digits read back as the number they were
-- made from.
use Prim.Native.Nat.{ℕ, zero, suc, ◌+◌, ◌*◌, ◌/◌, ◌%◌, ◌^◌, ◌<◌, ◌≤◌, min}
use mathlib.Core.Path.{◌≡◌, refl, ◌∙◌, ap}
use mathlib.Core.Bool.{Bool, true, false}
use mathlib.Core.List.{List, [], ◌∷◌}
use native.Mathlib.Omega.{arith}
use native.Mathlib.Nat.{pow-suc}
use borrow.Author.Tests.{lt-ltb, le-ltb, le-leb, ltb-true, ltb-false}
use lib.ListN.{length, drop, set}
use lib.Seq.{drop-cons, get_or-set_same, drop-set-lt, lt-length-set}
use lib.Dec.{ltb}
use Rattle.rules.specs.Refusals.{pick}
use Rattle.text.specs.Bytes.{digit, digit_of}
use Rattle.text.specs.Numbers.{top, amount, capped}
use Rattle.text.specs.Digits.{digits_most, digits, decimal}

stored : (row : List ℕ) (j d : ℕ) → j < length row → drop j (set row j d) ≡ d ∷ drop (suc j) row
stored row j d h =
    let behind : j < suc j = omega arith in
    drop-cons (set row j d) j 0 (lt-length-set row j d h)
    ∙ rw (get_or-set_same row j d 0 h, drop-set-lt (suc j) row j d behind)

-- a turn of the loop that makes digits, and its way out
module _ (row : List ℕ) (i j left : ℕ) (e : i ≡ suc j) (h : j < length row) where
  pub digit_on : 10 ≤ left → digits j (left / 10) (drop j (set row j (48 + left % 10))) ≡ digits i left (drop i row)
  unfolding digits
  digit_on g = rw (e, le-ltb _ _ g, stored row j (48 + left % 10) h)

  pub digit_last : left < 10 → drop j (set row j (48 + left % 10)) ≡ digits i left (drop i row)
  unfolding digits
  digit_last g = rw (e, lt-ltb _ _ g, stored row j (48 + left % 10) h)

pub digit_none : (row : List ℕ) (i left : ℕ) → i ≡ 0 → drop i row ≡ digits i left (drop i row)
unfolding digits
digit_none row i left e = rw e

-- a printed digit is a digit, and worth what it was printed for
print_digit : (n : ℕ) → digit (48 + n % 10) ≡ true
print_digit n =
    let low : 48 ≤ 48 + n % 10 = omega arith in
    let high : 48 + n % 10 ≤ 57 = omega arith in
    rw (le-leb _ _ low, le-leb _ _ high)

-- one digit read
one_digit : (v n : ℕ) (s : List ℕ) → amount v ((48 + n % 10) ∷ s) ≡ amount (10 * v + n % 10) s
unfolding amount
one_digit v n s =
    let worth : digit_of (48 + n % 10) ≡ n % 10 = omega arith in
    rw (print_digit n, worth)

by_size : (f n : ℕ) (s : List ℕ) (t : Bool) → ltb n 10 ≡ t
    → (10 ≤ n → amount 0 (digits f (n / 10) ((48 + n % 10) ∷ s)) ≡ amount (n / 10) ((48 + n % 10) ∷ s))
    → amount 0 (pick t ((48 + n % 10) ∷ s) (digits f (n / 10) ((48 + n % 10) ∷ s))) ≡ amount n s
by_size f n s true e more =
    let small : n < 10 = ltb-true _ _ e in
    let all : 10 * 0 + n % 10 ≡ n = omega arith in
    one_digit 0 n s ∙ ap (λ (v : ℕ). amount v s) all
by_size f n s false e more =
    let all : 10 * (n / 10) + n % 10 ≡ n = omega arith in
    more (ltb-false _ _ e) ∙ one_digit (n / 10) n s ∙ ap (λ (v : ℕ). amount v s) all

-- digits read back: whatever follows them is read behind their number
pub read_digits : (f n : ℕ) (s : List ℕ) → n < 10 ^ f → amount 0 (digits f n s) ≡ amount n s
unfolding digits
read_digits zero n s h = let none : n ≡ 0 = omega arith in rw none
read_digits (suc f) n s h =
    let less : 10 ≤ n → n / 10 < 10 ^ f = λ g. let p : n < 10 * 10 ^ f = omega (arith, pow-suc 10 f) in omega arith in
    by_size f n s (ltb n 10) refl (λ g. read_digits f (n / 10) ((48 + n % 10) ∷ s) (less g))

-- printed digits read back as the number, for every 64-bit number
pub read_back : (n : ℕ) → n < 10 ^ digits_most → amount 0 (decimal n) ≡ n
unfolding decimal amount
read_back n h = read_digits digits_most n [] h

-- the reader of numbers, handed printed digits, gives the number itself and says that it was not too large
pub spelt_back : (n : ℕ) → n ≤ top → capped (amount 0 (decimal n)) ≡ record { value = n; over = false }
unfolding capped
spelt_back n h =
    let small : n < 10 ^ digits_most = omega arith in
    let held : min n top ≡ n = omega arith in
    rw (read_back n small, held, le-ltb _ _ h)

-- ---- how long a number is

digits_few : (f n : ℕ) (s : List ℕ) → length (digits f n s) ≤ f + length s
unfolding digits
digits_few zero n s = omega arith
digits_few (suc f) n s = go (ltb n 10) (digits_few f (n / 10) ((48 + n % 10) ∷ s))
  where
    go : (b : Bool) → length (digits f (n / 10) ((48 + n % 10) ∷ s)) ≤ f + suc (length s)
        → length (pick b ((48 + n % 10) ∷ s) (digits f (n / 10) ((48 + n % 10) ∷ s))) ≤ suc f + length s
    go true few = omega arith
    go false few = omega arith

pub decimal_short : (n : ℕ) → length (decimal n) ≤ digits_most
unfolding decimal
decimal_short n = omega (arith, digits_few digits_most n [])
