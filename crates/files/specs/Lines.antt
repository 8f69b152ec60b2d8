-- A line of a report.
use Rattle.std.specs.Prelude.{ℕ, List, ◌++◌}
use Rattle.text.specs.Digits.{decimal}

-- a name, a number in decimal, and what ends the line
unfoldable pub line_of : List ℕ → ℕ → List ℕ → List ℕ
line_of name n end = (name ++ decimal n) ++ end
