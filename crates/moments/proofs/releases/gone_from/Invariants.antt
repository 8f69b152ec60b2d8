-- What the loop keeps, and what falls.
use Prim.Native.Nat.{suc, ◌-◌}
use Rattle.rules.specs.Limits.{event_time_max}
use Rattle.story.specs.Kept.{title_held}
use Rattle.moments.proofs.Released.{Waits}
use Rattle.moments.proofs.releases.gone_from.Given as goal

abbrev pub invariant-loop-t : goal.invariant-loop-t
invariant-loop-t l = Waits (title_held l.t) 0 l.from l.time

abbrev pub decreases-loop-t : goal.decreases-loop-t
decreases-loop-t l = suc event_time_max - l.time
