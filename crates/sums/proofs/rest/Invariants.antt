-- What the loop keeps, and what falls.
use Prim.Native.Nat.{◌-◌}
use mathlib.Core.Path.{◌≡◌}
use Rattle.sums.specs.inner.Moves.{register_from}
use Rattle.sums.proofs.rest.Given as goal

abbrev pub invariant-loop-at : goal.invariant-loop-at
invariant-loop-at l = l.x ≡ register_from l.bytes l.from l.r (l.at - l.from)
