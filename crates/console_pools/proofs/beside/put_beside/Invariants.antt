-- What the loop keeps: of the four rows, the places passed are written.
use Rattle.text.specs.Pages.{Puts}
use Rattle.console_answers.specs.Entries.{each}
use Rattle.console_pools.specs.Beside.{beside_at}
use Rattle.console_pools.proofs.beside.put_beside.Given as goal

abbrev pub invariant-loop-i : goal.invariant-loop-i
invariant-loop-i l = Puts l.initial.page (each (beside_at l.a l.b l.c l.d) l.i) l.page
