-- What the loop keeps, and what falls.
use Prim.Native.Nat.{◌≤◌}
use mathlib.Core.Path.{◌≡◌}
use lib.ListN.{length, drop}
use Rattle.text.specs.Digits.{digits_most, digits, decimal}
use Rattle.text.proofs.digits.decimal.Given as goal

abbrev pub invariant-loop-i : goal.invariant-loop-i
invariant-loop-i l = (digits l.i l.left (drop l.i l.row) ≡ decimal l.n) × (l.i ≤ digits_most) × (length l.row ≡ digits_most)
