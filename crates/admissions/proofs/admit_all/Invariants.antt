-- What the loop keeps.
use mathlib.Core.Path.{◌≡◌}
use Rattle.admissions.specs.Stretches.{gathered}
use Rattle.admissions.proofs.admit_all.Given as goal

abbrev pub invariant-loop-arrival : goal.invariant-loop-arrival
invariant-loop-arrival l = l.all ≡ gathered l.s l.from l.upto l.arrivals l.initial.all l.arrival-index
