-- What the loop keeps.
use lib.ListN.{length, get_or}
use Rattle.box_charts.specs.Marks.{marks_to}
use Rattle.text.specs.Pages.{Puts}
use Rattle.box_charts.proofs.marks.put_marks.Given as goal

abbrev pub invariant-loop-cell : goal.invariant-loop-cell
invariant-loop-cell l = Puts l.initial.page (marks_to (length l.taken) (λ c. get_or l.taken c 0) l.cell) l.page
