-- What the loop keeps.
use Rattle.owed.proofs.Nth.{Unmet}
use Rattle.owed.proofs.sending.nth_by_ticks.Given as goal

abbrev pub invariant-loop-i : goal.invariant-loop-i
invariant-loop-i l = Unmet l.t l.lane l.from l.nth l.i l.owed
