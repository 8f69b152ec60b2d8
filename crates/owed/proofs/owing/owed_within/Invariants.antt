-- What the loop keeps.
use Prim.Native.Nat.{◌≤◌}
use mathlib.Core.Path.{◌≡◌}
use Rattle.story.specs.Kept.{kept_within}
use Rattle.owed.proofs.owing.owed_within.Given as goal

abbrev pub invariant-loop-i : goal.invariant-loop-i
invariant-loop-i l = (l.owed ≡ kept_within l.t l.lane l.from l.i) × (l.owed ≤ l.i)
