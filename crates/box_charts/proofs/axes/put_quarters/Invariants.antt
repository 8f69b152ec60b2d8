-- What the loop keeps.
use Rattle.box_charts.specs.Axes.{quarters_text}
use Rattle.text.specs.Pages.{Puts}
use Rattle.box_charts.proofs.axes.put_quarters.Given as goal

abbrev pub invariant-loop-quarter : goal.invariant-loop-quarter
invariant-loop-quarter l = Puts l.initial.page (quarters_text l.moment l.tick l.cells l.quarter) l.page
