-- What the loop keeps.
use Prim.Native.Nat.{◌≤◌, ◌*◌}
use mathlib.Core.Path.{◌≡◌}
use Rattle.rules.specs.Limits.{count_max}
use Rattle.rules.specs.Search.{total}
use Rattle.story.specs.Kept.{title_at}
use Rattle.sharers.specs.Sharers.{kept_apart}
use Rattle.sharers.proofs.shared_pool.Given as goal

abbrev pub invariant-loop-t : goal.invariant-loop-t
invariant-loop-t l = (l.sum ≡ total (λ j. kept_apart (title_at l.fn.s j)) l.t-index) × (l.sum ≤ count_max * l.t-index)
