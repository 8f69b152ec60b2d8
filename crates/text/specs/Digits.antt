-- Numbers in decimal, bytes in hexadecimal, and hexadecimal back into bytes (docs/CONSOLE.md, "Lines" and "Answers").
use Rattle.std.specs.Prelude.{ℕ, zero, suc, ◌+◌, ◌-◌, ◌*◌, ◌/◌, ◌%◌, ◌≤◌, List, [], ◌∷◌, ◌≡◌, length, drop, ltb}
use Rattle.rules.specs.Refusals.{pick}
use Rattle.text.specs.declared.digits.Digits.{Digits}

-- the digits of n, f at most, before what follows them
unfoldable pub digits : ℕ → ℕ → List ℕ → List ℕ
digits zero n s = s
digits (suc f) n s = pick (ltb n 10) ((48 + n % 10) ∷ s) (digits f (n / 10) ((48 + n % 10) ∷ s))

-- so many digits hold every 64-bit number
abbrev pub digits_most : ℕ
digits_most = 20

-- a number in decimal with no leading zero
unfoldable pub decimal : ℕ → List ℕ
decimal n = digits digits_most n []

-- the digits of n stand at the end of a row
pub record Made (n : ℕ) (d : Digits) : Type 0 where
  pub text : drop d.from d.row ≡ decimal n
  pub start : d.from ≤ digits_most
  pub size : length d.row ≡ digits_most

-- the letter of a hexadecimal digit, in lower case
unfoldable pub letter_of : ℕ → ℕ
letter_of n = pick (ltb n 10) (48 + n) (87 + n)

-- bytes in hexadecimal
unfoldable pub hex_text : List ℕ → List ℕ
hex_text [] = []
hex_text (b ∷ s) = letter_of (b / 16) ∷ letter_of (b % 16) ∷ hex_text s

-- what a hexadecimal digit is worth, in either case; 0 for any other byte
unfoldable pub hex_of : ℕ → ℕ
hex_of b =
    pick (ltb b 48) 0
    (pick (ltb b 58) (b - 48)
    (pick (ltb b 65) 0
    (pick (ltb b 71) (b - 55)
    (pick (ltb b 97) 0
    (pick (ltb b 103) (b - 87) 0)))))

-- the bytes that hexadecimal digits spell, two to a byte
unfoldable pub hex_bytes : List ℕ → List ℕ
hex_bytes [] = []
hex_bytes (h ∷ []) = []
hex_bytes (h ∷ (l ∷ s)) = (16 * hex_of h + hex_of l) ∷ hex_bytes s
