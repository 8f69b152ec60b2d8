-- What the loop keeps.
use mathlib.Core.Path.{◌≡◌}
use Rattle.spans.specs.Extents.{released_to}
use Rattle.spans.proofs.releases.last_release.Given as goal

abbrev pub invariant-loop-lane : goal.invariant-loop-lane
invariant-loop-lane l = l.moment ≡ released_to l.t l.lane
