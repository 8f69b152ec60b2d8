-- What the loop keeps, and what falls.
use Prim.Native.Nat.{suc, ◌-◌}
use Rattle.rules.specs.Limits.{event_time_max}
use Rattle.story.specs.Kept.{lanes_held}
use Rattle.moments.proofs.Released.{Waits}
use Rattle.moments.proofs.releases.free_from.Given as goal

abbrev pub invariant-loop-s : goal.invariant-loop-s
invariant-loop-s l = Waits (lanes_held l.s) l.s.pool l.from l.time

abbrev pub decreases-loop-s : goal.decreases-loop-s
decreases-loop-s l = suc event_time_max - l.time
