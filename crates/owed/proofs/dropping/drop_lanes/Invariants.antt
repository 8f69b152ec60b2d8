-- What the loop keeps.
use mathlib.Core.Path.{◌≡◌}
use Rattle.story.specs.Next.{drop_lanes}
use Rattle.owed.proofs.dropping.drop_lanes.Given as goal

abbrev pub invariant-loop-lane : goal.invariant-loop-lane
invariant-loop-lane l = l.q ≡ drop_lanes l.fn.t l.tick l.count l.lane
