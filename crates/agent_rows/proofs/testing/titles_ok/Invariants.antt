-- What the loop keeps.
use Prim.Native.Nat.{ℕ, ◌+◌, ◌≤◌, ◌<◌}
use mathlib.Core.Path.{◌≡◌}
use lib.ListN.{get_or}
use Rattle.rules.specs.Search.{every}
use Rattle.agent_rows.specs.Layout.{title_places, title_place}
use Rattle.agent_rows.specs.Packed.{title_from}
use Rattle.agent_rows.specs.inner.Tested.{small_ok}
use Rattle.agent_rows.proofs.testing.titles_ok.Given as goal

abbrev pub invariant-loop-i : goal.invariant-loop-i
invariant-loop-i l = (l.ok ≡ every (λ j. small_ok l.pool (title_from l.row (title_place j))) l.i)
    × ((j : ℕ) → j < l.i → (k : ℕ) → k < title_places → get_or l.row (title_place j + k) 0 ≤ l.all)
