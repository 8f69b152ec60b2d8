-- Rows of numbers side by side (docs/CONSOLE.md, "Commands": status and planner).
use Rattle.std.specs.Prelude.{ℕ, List, [], ◌++◌, length, get_or, ltb}
use Rattle.rules.specs.Refusals.{pick}
use Rattle.console_answers.specs.Entries.{entry, each}

-- the number of a row at a place, where it has one
unfoldable pub entry_at : List ℕ → ℕ → List ℕ
entry_at row i = pick (ltb i (length row)) (entry (get_or row i 0)) []

-- the numbers of four rows at a place, in the order of the rows
unfoldable pub beside_at : List ℕ → List ℕ → List ℕ → List ℕ → ℕ → List ℕ
beside_at a b c d i = ((entry_at a i ++ entry_at b i) ++ entry_at c i) ++ entry_at d i

-- at each of their first n places
abbrev pub beside : List ℕ → List ℕ → List ℕ → List ℕ → ℕ → List ℕ
beside a b c d n = each (beside_at a b c d) n
