-- What the loop keeps, and what falls.
use mathlib.Core.Path.{◌≡◌}
use lib.Dec.{eqb}
use lib.ListN.{get_or}
use Rattle.rules.specs.Search.{first}
use Rattle.takings.proofs.find.Given as goal

abbrev pub invariant-loop-i : goal.invariant-loop-i
invariant-loop-i l = first (λ j. eqb (get_or l.numbers j 0) l.cell) l.i ≡ l.i
