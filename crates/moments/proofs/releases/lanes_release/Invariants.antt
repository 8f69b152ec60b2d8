-- What the loop keeps.
use mathlib.Core.Path.{◌≡◌}
use Rattle.moments.specs.inner.Steps.{lanes_release}
use Rattle.moments.proofs.releases.lanes_release.Given as goal

abbrev pub invariant-loop-lane : goal.invariant-loop-lane
invariant-loop-lane l = l.r ≡ lanes_release l.t l.time l.soonest l.lane
