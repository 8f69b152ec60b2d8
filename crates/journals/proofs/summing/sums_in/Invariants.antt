-- What the loop keeps, and what falls.
use Prim.Native.Nat.{◌-◌}
use lib.ListN.{length}
use Rattle.journals.proofs.SumsMade.{Making}
use Rattle.journals.proofs.summing.sums_in.Given as goal

abbrev pub invariant-loop-out : goal.invariant-loop-out
invariant-loop-out l = Making l.window l.over l.initial.out l.place l.at l.out

abbrev pub decreases-loop-out : goal.decreases-loop-out
decreases-loop-out l = length l.window - l.place
