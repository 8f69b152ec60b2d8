-- What the loop keeps: how many of the titles passed are there.
use Prim.Native.Nat.{◌≤◌}
use mathlib.Core.Path.{◌≡◌}
use Rattle.rules.specs.Search.{how_many}
use Rattle.story.specs.Kept.{title_at, is_there}
use Rattle.console_views.proofs.titles.titles_there.Given as goal

abbrev pub invariant-loop-t : goal.invariant-loop-t
invariant-loop-t l = (l.n ≡ how_many (λ i. is_there (title_at l.fn.s i) l.time) l.t-index) × (l.n ≤ l.t-index)
