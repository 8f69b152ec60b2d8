-- What the loop keeps.
use Prim.Native.Nat.{◌≤◌}
use mathlib.Core.Path.{◌≡◌}
use Rattle.rules.specs.Search.{how_many}
use Rattle.story.specs.Kept.{kept_held}
use Rattle.agent_rows.specs.Packed.{title_from}
use Rattle.agent_rows.proofs.holding.held_at.Given as goal

abbrev pub invariant-loop-lane : goal.invariant-loop-lane
invariant-loop-lane v = (v.n ≡ how_many (λ l. kept_held (title_from v.row v.at) l v.tick) v.lane)
    × (v.n ≤ v.lane)
