-- Rows of numbers, each behind a space (docs/CONSOLE.md, "Commands").
use Rattle.std.specs.Prelude.{ℕ, zero, suc, List, [], ◌++◌, get_or}
use Rattle.text.specs.Texts.{text}
use Rattle.text.specs.Digits.{decimal}

unfoldable pub entry : ℕ → List ℕ
entry n = text " " ++ decimal n

-- what stands for each place of a row, for the first n
unfoldable pub each : (ℕ → List ℕ) → ℕ → List ℕ
each f zero = []
each f (suc n) = each f n ++ f n

-- the first n numbers of a row
abbrev pub numbers_text : List ℕ → ℕ → List ℕ
numbers_text row n = each (λ (i : ℕ). entry (get_or row i 0)) n
