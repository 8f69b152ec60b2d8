-- A line with nothing wrong is no longer than the longest: its length comes before everything else. Rests on the definition of its meaning.
use Prim.Native.Nat.{ℕ, ◌≤◌}
use mathlib.Core.Path.{◌≡◌, refl, sym, ◌∙◌}
use mathlib.Core.Bool.{Bool, true, false}
use mathlib.Core.List.{List}
use native.Mathlib.Omega.{arith}
use borrow.Author.Tests.{ltb-false}
use lib.ListN.{length}
use lib.Dec.{ltb}
use Rattle.console_commands.specs.Commands
use Rattle.console_lines.specs.Lines.{with_fault, begun, read_on, meaning, longest}

-- one that is too long is read as such
too_long_lem : (s : List ℕ) → ltb longest (length s) ≡ true → (meaning s).fault ≡ Commands.too_long
unfolding meaning read_on begun with_fault
too_long_lem s h = rw h

pub readable : (s : List ℕ) → (meaning s).fault ≡ Commands.no_fault → length s ≤ longest
readable s e = by_test (ltb longest (length s)) refl where
  by_test : (t : Bool) → ltb longest (length s) ≡ t → length s ≤ longest
  by_test true h = let z : ◌≡◌ {A = ℕ} 1 0 = sym (too_long_lem s h) ∙ e in omega arith
  by_test false h = ltb-false _ _ h
