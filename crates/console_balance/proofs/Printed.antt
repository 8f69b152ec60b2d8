-- A printed number among other words: its bytes are digits, so that a run of digits and the word that begins there end where it
-- ends, no run of separators begins there, and what is read there is the number.
-- Rests on the laws of digits and of written times.
use Prim.Native.Nat.{ℕ, zero, suc, ◌+◌, ◌%◌, ◌/◌, ◌<◌, ◌≤◌, ◌^◌}
use mathlib.Core.Path.{◌≡◌, refl, ap, ◌∙◌}
use mathlib.Core.Bool.{Bool, true, false}
use mathlib.Core.List.{List, [], ◌∷◌, ◌++◌}
use native.Mathlib.Omega.{arith}
use borrow.Author.Tests.{leb-true, ne_eqb}
use lib.ListN.{length}
use lib.Dec.{leb, ltb}
use Rattle.rules.specs.Refusals.{pick}
use Rattle.rules.proofs.Tests.{both_l, both_r}
use Rattle.text.specs.declared.bytes.Sort.{Sort}
use Rattle.text.specs.declared.bytes.Sort.TheVariants.{Separator, Word, Digit}
use Rattle.text.specs.Bytes.{digit, is_sort, run}
use Rattle.text.specs.Numbers.{top, amount}
use Rattle.text.specs.Digits.{digits_most, digits, decimal}
use Rattle.text.proofs.Printing.{read_digits}
use Rattle.clocks.specs.Clocks.{has_colon}
use Rattle.clocks.proofs.Hours.{last_is_digit, decimal_some}
use Rattle.console_lines.specs.Lines.{hash}

-- bytes that are all digits
pub data Digital : List ℕ → Type 0 where
  no_more : Digital []
  one_more : {b : ℕ} {s : List ℕ} → digit b ≡ true → Digital s → Digital (b ∷ s)

either_way : {A : Type 0} (P : A → Type 0) (b : Bool) {x y : A} → P x → P y → P (pick b x y)
either_way P true p q = p
either_way P false p q = q

digits_digital : (f n : ℕ) (s : List ℕ) → Digital s → Digital (digits f n s)
unfolding digits
digits_digital zero n s h = h
digits_digital (suc f) n s h =
    either_way Digital (ltb n 10) (one_more (last_is_digit n) h)
    (digits_digital f (n / 10) ((48 + n % 10) ∷ s) (one_more (last_is_digit n) h))

pub decimal_digital : (n : ℕ) → Digital (decimal n)
unfolding decimal
decimal_digital n = digits_digital digits_most n [] no_more

-- ---- runs over digits

digit_word : (b : ℕ) → digit b ≡ true → is_sort Word b ≡ true
unfolding is_sort
digit_word b h =
    let low : 48 ≤ b = leb-true _ _ (both_l _ _ h) in
    rw (ne_eqb b 32 (λ e. omega arith), ne_eqb b 9 (λ e. omega arith), ne_eqb b 13 (λ e. omega arith)) refl

digit_digit : (b : ℕ) → digit b ≡ true → is_sort Digit b ≡ true
unfolding is_sort
digit_digit b h = h

over : (k : Sort) → ((b : ℕ) → digit b ≡ true → is_sort k b ≡ true) → (d t : List ℕ) → Digital d →
    run k (d ++ t) ≡ length d + run k t
unfolding run
over k is d t no_more = omega arith
over k is d t (one_more {b} {s} h rest) = rw (is b h) (omega (arith, over k is s t rest))

separated : (d t : List ℕ) → Digital d → 0 < length d → run Separator (d ++ t) ≡ 0
unfolding run is_sort
separated d t no_more h = absurd (omega arith)
separated d t (one_more {b} {s} h rest) some =
    let low : 48 ≤ b = leb-true _ _ (both_l _ _ h) in
    rw (ne_eqb b 32 (λ e. omega arith), ne_eqb b 9 (λ e. omega arith), ne_eqb b 13 (λ e. omega arith)) refl

module _ (n : ℕ) (t : List ℕ) where
  -- the word that begins with a printed number goes on behind it as what follows does
  pub word_over : run Word (decimal n ++ t) ≡ length (decimal n) + run Word t
  word_over = over Word digit_word (decimal n) t (decimal_digital n)

  pub digits_over : run Digit (decimal n ++ t) ≡ length (decimal n) + run Digit t
  digits_over = over Digit digit_digit (decimal n) t (decimal_digital n)

  -- no separator stands there
  pub no_separator : run Separator (decimal n ++ t) ≡ 0
  no_separator = separated (decimal n) t (decimal_digital n) (decimal_some n)

-- the first byte is no mark of a remark
leading : (d t : List ℕ) → Digital d → 0 < length d → (b : ℕ) (s : List ℕ) → d ++ t ≡ b ∷ s → b ≡ hash → ⊥
leading d t no_more h b s e z = absurd (omega arith)
leading d t (one_more {b = c} {s = r} h rest) some b s e z =
    let same : c ≡ b = cc in
    let low : 48 ≤ c = leb-true _ _ (both_l _ _ h) in
    omega arith

pub first_byte : (n : ℕ) (t : List ℕ) (b : ℕ) (s : List ℕ) → decimal n ++ t ≡ b ∷ s → b ≡ hash → ⊥
first_byte n t = leading (decimal n) t (decimal_digital n) (decimal_some n)

-- and none is a colon
colonless : (d : List ℕ) → Digital d → has_colon d ≡ false
unfolding has_colon
colonless d no_more = refl
colonless d (one_more {b} {s} h rest) =
    let high : b ≤ 57 = leb-true _ _ (both_r (leb 48 b) (leb b 57) h) in
    rw (ne_eqb b 58 (λ e. omega arith)) (colonless s rest)

pub no_colon : (n : ℕ) → has_colon (decimal n) ≡ false
no_colon n = colonless (decimal n) (decimal_digital n)

-- ---- what is read there

digits_append : (f n : ℕ) (s t : List ℕ) → digits f n s ++ t ≡ digits f n (s ++ t)
unfolding digits
digits_append zero n s t = refl
digits_append (suc f) n s t = go (ltb n 10) (digits_append f (n / 10) ((48 + n % 10) ∷ s) t)
  where
    go : (b : Bool) → digits f (n / 10) ((48 + n % 10) ∷ s) ++ t ≡ digits f (n / 10) ((48 + n % 10) ∷ (s ++ t))
        → pick b ((48 + n % 10) ∷ s) (digits f (n / 10) ((48 + n % 10) ∷ s)) ++ t
        ≡ pick b ((48 + n % 10) ∷ (s ++ t)) (digits f (n / 10) ((48 + n % 10) ∷ (s ++ t)))
    go true e = refl
    go false e = e

-- what follows the number is no digit
pub amount_there : (n : ℕ) (t : List ℕ) → n ≤ top → amount n t ≡ n → amount 0 (decimal n ++ t) ≡ n
unfolding decimal
amount_there n t h stop =
    let small : n < 10 ^ digits_most = omega arith in
    ap (amount 0) (digits_append digits_most n [] t) ∙ read_digits digits_most n t small ∙ stop
