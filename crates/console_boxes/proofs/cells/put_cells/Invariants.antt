-- What the loop keeps: the cells passed are written.
use Prim.Native.Nat.{ℕ}
use lib.ListN.{get_or}
use Rattle.text.specs.Pages.{Puts}
use Rattle.console_answers.specs.Entries.{each}
use Rattle.console_boxes.specs.Plan.{cell_entry}
use Rattle.console_boxes.proofs.cells.put_cells.Given as goal

abbrev pub invariant-loop-cell : goal.invariant-loop-cell
invariant-loop-cell l =
    Puts l.initial.page (each (λ (j : ℕ). cell_entry (get_or l.row j 0)) l.cell-index) l.page
