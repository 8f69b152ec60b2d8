-- What the loop keeps: the changes passed are written.
use Prim.Native.Nat.{ℕ}
use lib.ListN.{get_or}
use Rattle.text.specs.Pages.{Puts}
use Rattle.console_answers.specs.Entries.{each}
use Rattle.console_balance.specs.Balance.{move_to, change_line}
use Rattle.console_balance.proofs.changes.put_each.Given as goal

abbrev pub invariant-loop-i : goal.invariant-loop-i
invariant-loop-i l =
    Puts l.initial.page (each (λ (j : ℕ). change_line (move_to (get_or l.ids j 0) (get_or l.times j 0) (get_or l.counts j 0))) l.i) l.page
