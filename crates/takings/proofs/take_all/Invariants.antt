-- What the loop keeps, and what falls.
use mathlib.Core.Path.{◌≡◌}
use lib.ListN.{length, get_or}
use Rattle.plans.specs.Row.{written}
use Rattle.takings.specs.Takings.{taking_place}
use Rattle.takings.proofs.take_all.Given as goal

abbrev pub invariant-loop-cell : goal.invariant-loop-cell
invariant-loop-cell l = l.taken ≡ written (taking_place l.length l.tick (λ j. get_or l.numbers j 0) (length l.numbers)) l.initial.taken l.cell
