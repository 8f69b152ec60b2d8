-- What the loop keeps.
use Rattle.box_charts.specs.Marks.{plays_to}
use Rattle.text.specs.Pages.{Puts}
use Rattle.box_charts.proofs.marks.put_plays_steps.Given as goal

abbrev pub invariant-loop-cell : goal.invariant-loop-cell
invariant-loop-cell l = Puts l.initial.page (plays_to l.cells l.cell) l.page
