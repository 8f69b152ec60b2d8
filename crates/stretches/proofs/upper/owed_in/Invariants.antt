-- What the loop keeps.
use Prim.Native.Nat.{◌*◌, ◌^◌, ◌≤◌}
use mathlib.Core.Path.{◌≡◌}
use Rattle.rules.specs.Limits.{count_max}
use Rattle.stretches.specs.inner.Walk.{ticks_to}
use Rattle.stretches.proofs.upper.owed_in.Given as goal

abbrev pub invariant-loop-i : goal.invariant-loop-i
invariant-loop-i l = (l.owed ≡ ticks_to l.s l.i) × (l.owed ≤ 2 ^ count_max * l.i)
