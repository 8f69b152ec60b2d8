-- The lines of a text, of which each ends in a newline.
use Rattle.std.specs.Prelude.{ℕ, zero, suc, List, take, drop}
use Rattle.text.specs.declared.bytes.Sort.TheVariants.{Line}
use Rattle.text.specs.Bytes.{run}

-- what stands behind the first line and its newline
unfoldable pub after_first : List ℕ → List ℕ
after_first s = drop (suc (run Line s)) s

-- the k-th line, from 0, without its newline; empty where there is none
unfoldable pub line_numbered : List ℕ → ℕ → List ℕ
line_numbered s zero = take (run Line s) s
line_numbered s (suc k) = line_numbered (after_first s) k
