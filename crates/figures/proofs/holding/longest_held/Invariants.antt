-- What the loop keeps.
use Prim.Native.Nat.{◌-◌, ◌^◌, ◌≤◌}
use mathlib.Core.Path.{◌≡◌}
use Rattle.rules.specs.Limits.{count_max}
use Rattle.figures.specs.Holding.{longest_held}
use Rattle.figures.proofs.holding.longest_held.Given as goal

abbrev pub invariant-loop-i : goal.invariant-loop-i
invariant-loop-i l = (l.most ≤ 2 ^ count_max) × (l.period ≡ 2 ^ (l.count - 1)) × (l.period ≤ 2 ^ count_max)
    × (l.most ≡ longest_held l.floor l.count l.i)
