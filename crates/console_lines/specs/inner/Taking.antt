-- A word within its line, and the line that a number as it is handed on leaves.
use Rattle.std.specs.Prelude.{ℕ, ◌≤◌, ◌≡◌, List, length}
use Rattle.text.specs.declared.bytes.Sort.TheVariants.{Word}
use Rattle.text.specs.declared.numbers.Number.{Number}
use Rattle.text.specs.Bytes.{run_end}
use Rattle.text.specs.Numbers.{capped}
use Rattle.console_lines.specs.declared.lines.Line.{Line}
use Rattle.console_lines.specs.Lines.{with_amount}

-- the word that starts at a ends at e
pub record WordIn (s : List ℕ) (a e : ℕ) : Type 0 where
  pub low : a ≤ e
  pub high : e ≤ length s
  pub ends : e ≡ run_end Word s a

-- whichever number is handed on as n, the line is the one that this number leaves
abbrev pub Taken : Line → Number → ℕ → ℕ → Line → Type 0
Taken l n a e r = (v : ℕ) → n ≡ capped v → r ≡ with_amount l a e v
