-- Laws of hexadecimal: a turn of the loops that write and read it, and that what is written reads back as the bytes.
use Prim.Native.Nat.{ℕ, suc, ◌+◌, ◌*◌, ◌/◌, ◌%◌, ◌<◌, ◌≤◌}
use mathlib.Core.Path.{◌≡◌, refl}
use mathlib.Core.Bool.{Bool, true, false}
use mathlib.Core.List.{List, [], ◌∷◌}
use native.Mathlib.Omega.{arith}
use native.Mathlib.Numerals.{add-one}
use borrow.Author.Tests.{lt-ltb, le-ltb, ltb-true, ltb-false}
use lib.ListN.{length, get_or, drop, drop_of_length-le, length-drop}
use lib.Seq.{drop-cons}
use lib.Dec.{ltb}
use Rattle.rules.specs.Refusals.{pick}
use Rattle.text.specs.Output.{Page, put, puts}
use Rattle.text.specs.Digits.{letter_of, hex_text, hex_of, hex_bytes}

-- writing a byte as two letters
module _ (p : Page) (s : List ℕ) (i : ℕ) where
  pub hex_on : i < length s
      → puts (put (put p (letter_of (get_or s i 0 / 16))) (letter_of (get_or s i 0 % 16))) (hex_text (drop (i + 1) s))
      ≡ puts p (hex_text (drop i s))
  unfolding puts hex_text
  hex_on h = rw (add-one, drop-cons s i 0 h)

  pub hex_end : length s ≤ i → p ≡ puts p (hex_text (drop i s))
  unfolding puts hex_text
  hex_end h = rw (drop_of_length-le s h)

short : (s : List ℕ) → length s ≤ 1 → hex_bytes s ≡ []
unfolding hex_bytes
short [] h = refl
short (a ∷ []) h = refl
short (a ∷ (b ∷ s)) h = absurd (none h) where
  none : suc (suc (length s)) ≤ 1 → ⊥
  none h = omega arith

-- reading two letters as a byte
module _ (p : Page) (s : List ℕ) (i : ℕ) where
  pub decode_on : i < length s / 2
      → puts (put p (16 * hex_of (get_or s (2 * i) 0) + hex_of (get_or s (2 * i + 1) 0))) (hex_bytes (drop (2 * (i + 1)) s))
      ≡ puts p (hex_bytes (drop (2 * i) s))
  unfolding puts hex_bytes
  decode_on h =
      let first : 2 * i < length s = omega arith in
      let second : suc (2 * i) < length s = omega arith in
      let next : 2 * (i + 1) ≡ suc (suc (2 * i)) = omega arith in
      rw (next, drop-cons s (2 * i) 0 first, drop-cons s (suc (2 * i)) 0 second, add-one)

  pub decode_end : length s / 2 ≤ i → p ≡ puts p (hex_bytes (drop (2 * i) s))
  unfolding puts
  decode_end h =
      let few : length (drop (2 * i) s) ≤ 1 = rw length-drop (omega arith) in
      rw (short (drop (2 * i) s) few)

-- a letter is worth the digit it was written for
letter_worth : (n : ℕ) (t : Bool) → n < 16 → ltb n 10 ≡ t → hex_of (pick t (48 + n) (87 + n)) ≡ n
unfolding hex_of
letter_worth n true h e =
    let small : n < 10 = ltb-true _ _ e in
    let low : 48 ≤ 48 + n = omega arith in
    let high : 48 + n < 58 = omega arith in
    rw (le-ltb _ _ low, lt-ltb _ _ high) (omega arith)
letter_worth n false h e =
    let big : 10 ≤ n = ltb-false _ _ e in
    let a : 48 ≤ 87 + n = omega arith in
    let b : 58 ≤ 87 + n = omega arith in
    let c : 65 ≤ 87 + n = omega arith in
    let d : 71 ≤ 87 + n = omega arith in
    let f : 97 ≤ 87 + n = omega arith in
    let g : 87 + n < 103 = omega arith in
    rw (le-ltb _ _ a, le-ltb _ _ b, le-ltb _ _ c, le-ltb _ _ d, le-ltb _ _ f, lt-ltb _ _ g) (omega arith)

pub worth : (n : ℕ) → n < 16 → hex_of (letter_of n) ≡ n
unfolding letter_of
worth n h = letter_worth n (ltb n 10) h refl

-- bytes that were written in hexadecimal read back as they were
pub hex_back : (s : List ℕ) → ((i : ℕ) → get_or s i 0 < 256) → hex_bytes (hex_text s) ≡ s
unfolding hex_text hex_bytes
hex_back [] h = refl
hex_back (b ∷ s) h =
    let small : b < 256 = h 0 in
    let top : b / 16 < 16 = omega arith in
    let low : b % 16 < 16 = omega arith in
    let whole : 16 * (b / 16) + b % 16 ≡ b = omega arith in
    rw (worth (b / 16) top, worth (b % 16) low, whole, hex_back s (λ i. h (suc i)))
