-- What the loop keeps, and what falls.
use Prim.Native.Nat.{◌-◌}
use Rattle.agent_rows.specs.Packed.{unpacked}
use Rattle.curves.proofs.Steps.{Walking}
use Rattle.curves.proofs.put_curve.Given as goal

abbrev pub invariant-loop-time : goal.invariant-loop-time
invariant-loop-time l = Walking l.c (unpacked l.row).state l.initial.kept l.from l.to l.initial.page l.page l.kept l.time

abbrev pub decreases-loop-time : goal.decreases-loop-time
decreases-loop-time l = l.to - l.time
