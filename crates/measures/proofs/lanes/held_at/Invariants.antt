-- What the loop keeps.
use Prim.Native.Nat.{◌≤◌, min}
use mathlib.Core.Path.{◌≡◌}
use Rattle.rules.specs.Search.{how_many}
use Rattle.story.specs.Kept.{ruling, kept_held}
use Rattle.measures.proofs.lanes.held_at.Given as goal

abbrev pub invariant-loop-lane : goal.invariant-loop-lane
invariant-loop-lane l = (l.n ≡ how_many (λ k. kept_held l.t k l.tick) l.lane)
    × (l.n ≤ l.lane)
    × (l.active ≡ min (ruling l.t) l.t.film.cap)
