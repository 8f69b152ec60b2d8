-- What the loop keeps, and what falls.
use Prim.Native.Nat.{◌+◌, ◌-◌, ◌^◌, ◌/◌}
use mathlib.Core.Path.{◌≡◌}
use lib.Seq.{sets}
use Rattle.notice_fields.specs.Numbers.{big_endian}
use Rattle.notice_fields.proofs.numbers.put.Given as goal

abbrev pub invariant-loop-i : goal.invariant-loop-i
invariant-loop-i l = (l.left ≡ l.v / 256 ^ (l.width - l.i)) × (l.room ≡ sets l.initial.room (l.at + l.i) (big_endian (l.width - l.i) l.v))
