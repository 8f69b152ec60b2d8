-- What the loop keeps, and what falls.
use Prim.Native.Nat.{◌*◌}
use mathlib.Core.Path.{◌≡◌}
use Rattle.sums.specs.Crc.{ones}
use Rattle.sums.specs.inner.Moves.{register_from}
use Rattle.sums.proofs.parts.Given as goal

abbrev pub invariant-loop-i : goal.invariant-loop-i
invariant-loop-i l = (l.a ≡ register_from l.bytes 0 ones l.i)
    × (l.b ≡ register_from l.bytes l.many 0 l.i)
    × (l.c ≡ register_from l.bytes (2 * l.many) 0 l.i)
    × (l.d ≡ register_from l.bytes (3 * l.many) 0 l.i)
