-- Which bytes part words and which spell numbers, and how far a run of them goes (docs/CONSOLE.md, "Lines").
use Rattle.std.specs.Prelude.{ℕ, suc, ◌+◌, ◌-◌, Bool, not, List, [], ◌∷◌, drop, eqb}
use Rattle.rules.specs.Limits.{within, either}
use Rattle.rules.specs.Refusals.{pick}
use Rattle.text.specs.declared.bytes.Sort.{Sort}
use Rattle.text.specs.declared.bytes.Sort.TheVariants.{Separator, Word, Digit, Hex, Line}

-- the byte that ends a line
abbrev pub newline : ℕ
newline = 10

-- a space, a tab or a carriage return
abbrev pub separator : ℕ → Bool
separator b = either (eqb b 32) (either (eqb b 9) (eqb b 13))

-- 0 to 9
abbrev pub digit : ℕ → Bool
digit b = within 48 57 b

-- 0 to 9, a to f, A to F
abbrev pub hex_digit : ℕ → Bool
hex_digit b = either (digit b) (either (within 97 102 b) (within 65 70 b))

-- the byte may stand in a run of that sort; a word is made of whatever parts no words, a line of whatever is no newline
unfoldable pub is_sort : Sort → ℕ → Bool
is_sort Separator b = separator b
is_sort Word b = not (separator b)
is_sort Digit b = digit b
is_sort Hex b = hex_digit b
is_sort Line b = not (eqb b newline)

-- how many bytes of that sort s begins with
unfoldable pub run : Sort → List ℕ → ℕ
run k [] = 0
run k (b ∷ s) = pick (is_sort k b) (suc (run k s)) 0

-- the place of the line past the run that begins at i
unfoldable pub run_end : Sort → List ℕ → ℕ → ℕ
run_end k s i = i + run k (drop i s)

-- what a decimal digit is worth
abbrev pub digit_of : ℕ → ℕ
digit_of b = b - 48
