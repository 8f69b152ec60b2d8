-- The rows agree in the places passed, and are of one length.
use mathlib.Core.Path.{◌≡◌}
use lib.ListN.{length, take}
use Rattle.text.proofs.output.lay.Given as goal

abbrev pub invariant-loop-i : goal.invariant-loop-i
invariant-loop-i l = (length l.row ≡ length l.bytes) × (take l.i l.row ≡ take l.i l.bytes)
