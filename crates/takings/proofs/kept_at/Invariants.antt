-- What the loop keeps, and what falls.
use Prim.Native.Nat.{◌≤◌}
use mathlib.Core.Path.{◌≡◌}
use lib.ListN.{get_or}
use Rattle.rules.specs.Search.{how_many}
use Rattle.takings.specs.Takings.{is_kept}
use Rattle.takings.proofs.kept_at.Given as goal

abbrev pub invariant-loop-cell : goal.invariant-loop-cell
invariant-loop-cell l = (l.many ≡ how_many (is_kept (λ c. get_or l.taken c 0) l.tick) l.cell) × (l.many ≤ l.cell)
