-- What the loop keeps, and what falls.
use Prim.Native.Nat.{◌*◌}
use mathlib.Core.Path.{◌≡◌}
use lib.ListN.{length, drop}
use Rattle.text.specs.Output.{page, puts}
use Rattle.text.specs.Digits.{hex_bytes}
use Rattle.text.proofs.digits.decode.Given as goal

abbrev pub invariant-loop-i : goal.invariant-loop-i
invariant-loop-i l = (puts (page l.out l.place) (hex_bytes (drop (2 * l.i) l.hex)) ≡ puts (page l.initial.out 0)
    (hex_bytes l.hex)) × (length l.out ≡ length l.initial.out)
