-- What the loop keeps.
use Prim.Native.Nat.{◌≤◌, ◌*◌}
use mathlib.Core.Path.{◌≡◌}
use Rattle.rules.specs.Limits.{count_max}
use Rattle.rules.specs.Search.{total}
use Rattle.story.specs.Kept.{title_held, title_at}
use Rattle.measures.proofs.lanes.lanes_held.Given as goal

abbrev pub invariant-loop-t : goal.invariant-loop-t
invariant-loop-t l = (l.n ≡ total (λ i. title_held (title_at l.fn.s i) l.time) l.t-index) × (l.n ≤ count_max * l.t-index)
