-- Words in either case (docs/CONSOLE.md, "Lines").
use Rattle.std.specs.Prelude.{ℕ, ◌+◌, List, [], ◌∷◌, ltb}
use Rattle.rules.specs.Refusals.{pick}

-- how far a small letter is from its capital
abbrev pub letter_case : ℕ
letter_case = 32

-- A to Z as the small letter, any other byte as it is
unfoldable pub lower_of : ℕ → ℕ
lower_of b = pick (ltb b 65) b (pick (ltb 90 b) b (b + letter_case))

unfoldable pub lowered : List ℕ → List ℕ
lowered [] = []
lowered (b ∷ w) = lower_of b ∷ lowered w
