-- What the loop keeps.
use Prim.Native.Nat.{◌<◌}
use Rattle.stretches.specs.inner.Walk.{IsLatest}
use Rattle.stretches.proofs.latest.latest_above.Given as goal

abbrev pub invariant-loop-count : goal.invariant-loop-count
invariant-loop-count l = (l.lane < l.count) × IsLatest l.ends l.cap l.lane l.count l.until l.end
