-- What the loop keeps.
use lib.ListN.{length, get_or}
use Rattle.takings.specs.Takings.{kept_at}
use Rattle.box_charts.specs.Curve.{curve_to}
use Rattle.text.specs.Pages.{Puts}
use Rattle.box_charts.proofs.curve.put_curve_steps.Given as goal

abbrev pub invariant-loop-tick : goal.invariant-loop-tick
invariant-loop-tick l = Puts l.initial.page (curve_to (length l.taken) l.most (kept_at (λ c. get_or l.taken c 0) (length l.taken)) l.tick) l.page
