-- What the loop keeps.
use Prim.Native.Nat.{◌^◌, ◌≤◌}
use mathlib.Core.Path.{◌≡◌}
use Rattle.rules.specs.Limits.{count_max}
use Rattle.figures.specs.Holding.{held_of}
use Rattle.figures.proofs.holding.held_ticks.Given as goal

abbrev pub invariant-loop-i : goal.invariant-loop-i
invariant-loop-i l = (l.held ≤ l.i) × (l.reach ≤ 2 ^ count_max) × (l.held ≡ held_of l.floor l.count l.drop l.i)
