-- What the loop keeps.
use Prim.Native.Nat.{◌*◌, ◌≤◌}
use mathlib.Core.Path.{◌≡◌}
use Rattle.rules.specs.Limits.{floor_max}
use Rattle.rules.specs.Refusals.{pick}
use Rattle.rules.specs.Search.{total}
use Rattle.story.specs.Kept.{title_at}
use Rattle.sharers.specs.Sharers.{takes_part}
use Rattle.sharers.proofs.floors.Given as goal

abbrev pub invariant-loop-t : goal.invariant-loop-t
invariant-loop-t l = (l.sum ≡ total (λ j. pick (takes_part l.fn.s j) (title_at l.fn.s j).film.floor 0) l.t-index) × (l.sum ≤ floor_max * l.t-index)
