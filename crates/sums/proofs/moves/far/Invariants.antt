-- What the loop keeps, and what falls.
use Prim.Native.Nat.{◌*◌, ◌/◌, ◌^◌}
use mathlib.Core.Path.{◌≡◌}
use Rattle.sums.specs.Crc.{shifted_by}
use Rattle.sums.specs.inner.Moves.{highest}
use Rattle.sums.proofs.moves.far.Given as goal

abbrev pub invariant-loop-left : goal.invariant-loop-left
invariant-loop-left l = l.k ≡ shifted_by (8 * (l.bytes / 2 ^ l.left)) highest
