-- What the loop keeps, and what falls.
use Prim.Native.Nat.{suc, ◌-◌}
use Rattle.rules.specs.Limits.{event_time_max}
use Rattle.outlook.proofs.Tried.{Tried}
use Rattle.outlook.proofs.trying.accepted_from.Given as goal

abbrev pub invariant-loop-s : goal.invariant-loop-s
invariant-loop-s l = Tried l.s l.e l.time

abbrev pub decreases-loop-s : goal.decreases-loop-s
decreases-loop-s l = suc event_time_max - l.time
