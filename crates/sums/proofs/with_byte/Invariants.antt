-- What the loop keeps, and what falls.
use mathlib.Core.Path.{◌≡◌}
use lib.Bits.{bit_xor}
use Rattle.sums.specs.Crc.{shifted_by}
use Rattle.sums.proofs.with_byte.Given as goal

abbrev pub invariant-loop : goal.invariant-loop
invariant-loop l = l.x ≡ shifted_by l.counter (bit_xor l.r l.b)
