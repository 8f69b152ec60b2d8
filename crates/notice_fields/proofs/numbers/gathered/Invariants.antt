-- What the loop keeps, and what falls.
use Prim.Native.Nat.{◌<◌, ◌^◌}
use mathlib.Core.Path.{◌≡◌}
use Rattle.notice_fields.specs.Numbers.{number_at}
use Rattle.notice_fields.proofs.numbers.gathered.Given as goal

abbrev pub invariant-loop-i : goal.invariant-loop-i
invariant-loop-i l = (l.v ≡ number_at l.bytes l.at l.i) × (l.v < 256 ^ l.i)
