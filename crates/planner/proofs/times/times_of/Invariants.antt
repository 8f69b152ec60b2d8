-- What the loop keeps.
use mathlib.Core.Path.{◌≡◌}
use mathlib.Core.List.{map}
use lib.ListN.{length}
use Rattle.rules.specs.Limits.{titles_max}
use Rattle.wishes.specs.Wishes.{wishes_to}
use Rattle.planner.specs.Moves.{listed}
use Rattle.planner.specs.inner.Steps.{first_of}
use Rattle.planner.proofs.Running.{Running}
use Rattle.planner.proofs.times.times_of.Given as goal

abbrev pub invariant-loop-j : goal.invariant-loop-j
invariant-loop-j l = (length l.row ≡ titles_max)
    × Running l.initial.q l.time (wishes_to l.ids l.counts l.j) l.q l.last
    × (first_of l.row l.j ≡ map (λ m. m.time) (listed l.initial.q l.time (wishes_to l.ids l.counts l.j)))
