-- What the loop keeps, and what falls.
use Prim.Native.Nat.{◌-◌, ◌≤◌}
use mathlib.Core.Path.{◌≡◌}
use Rattle.story.specs.Kept.{kept_within}
use Rattle.stretches.proofs.low.nth_low.Given as goal

abbrev pub invariant-loop-i : goal.invariant-loop-i
invariant-loop-i l = (l.i ≤ l.end) × (l.owed ≡ kept_within l.t l.lane l.at l.i) × (l.owed ≤ l.i) × (l.owed ≤ l.nth)

abbrev pub decreases-loop-i : goal.decreases-loop-i
decreases-loop-i l = l.end - l.i
