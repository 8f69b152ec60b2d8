-- The number that digits spell (docs/CONSOLE.md, "Lines"): any length, leading zeros allowed, no sign.
use Rattle.std.specs.Prelude.{ℕ, ◌+◌, ◌*◌, min, Bool, true, false, List, [], ◌∷◌, eqb, ltb}
use Rattle.rules.specs.Refusals.{pick}
use Rattle.text.specs.declared.numbers.Number.{Number}
use Rattle.text.specs.Bytes.{digit, digit_of}

-- the largest number of one byte, and of four
abbrev pub byte_most : ℕ
byte_most = 255

abbrev pub four_bytes_most : ℕ
four_bytes_most = 4_294_967_295

-- of eight, which is the largest that is handed on
abbrev pub top : ℕ
top = 18_446_744_073_709_551_615

-- the number that the digits at the start of s spell, behind those that spelt v
unfoldable pub amount : ℕ → List ℕ → ℕ
amount v [] = v
amount v (b ∷ s) = pick (digit b) (amount (10 * v + digit_of b) s) v

-- a number of any size as it is handed on
unfoldable pub capped : ℕ → Number
capped v = record { value = min v top; over = ltb top v }

-- one more digit behind a number
unfoldable pub grow : Number → ℕ → Number
grow n b =
    record {
      value = min (10 * n.value + digit_of b) top;
      over = pick (ltb top (10 * n.value + digit_of b)) true n.over;
    }

-- v is above a limit; a limit of 0 stands for none
unfoldable pub too_large : ℕ → ℕ → Bool
too_large limit v = pick (eqb limit 0) false (ltb limit v)

-- the same of a number as it is handed on
unfoldable pub above : ℕ → Number → Bool
above limit n = pick (eqb limit 0) false (pick n.over true (ltb limit n.value))
