-- What the loop keeps: the numbers passed are written.
use Prim.Native.Nat.{ℕ}
use lib.ListN.{get_or}
use Rattle.text.specs.Pages.{Puts}
use Rattle.console_answers.specs.Entries.{each, entry}
use Rattle.console_answers.proofs.entries.put_numbers.Given as goal

abbrev pub invariant-loop-n : goal.invariant-loop-n
invariant-loop-n l = Puts l.initial.page (each (λ (j : ℕ). entry (get_or l.row j 0)) l.n-index) l.page
