-- Numbers written into a row.
use Rattle.std.specs.Prelude.{ℕ, ◌+◌, List, ◌++◌, length, take, drop}

-- the row with numbers from a place on, and the others as they were
unfoldable pub laid : List ℕ → ℕ → List ℕ → List ℕ
laid r at xs = take at r ++ (xs ++ drop (at + length xs) r)
