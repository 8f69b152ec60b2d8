-- What the loop keeps.
use Prim.Native.Nat.{ℕ, ◌+◌, ◌≤◌, ◌<◌}
use lib.ListN.{get_or}
use Rattle.agent_rows.specs.Layout.{drops_at, owed_at}
use Rattle.agent_rows.proofs.holding.drops_from.Given as goal

abbrev pub invariant-loop-lane : goal.invariant-loop-lane
invariant-loop-lane v = (l : ℕ) → v.from ≤ l → l < v.lane → (get_or v.row (v.at + drops_at + l) 0 ≤ v.all) × (get_or v.row (v.at + owed_at + l) 0 ≤ v.all)
