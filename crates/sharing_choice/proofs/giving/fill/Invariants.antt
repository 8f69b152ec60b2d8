-- The rows agree in the places passed, and are of one length.
use mathlib.Core.Path.{◌≡◌}
use lib.ListN.{length, take}
use Rattle.sharing_choice.proofs.giving.fill.Given as goal

abbrev pub invariant-loop-i : goal.invariant-loop-i
invariant-loop-i l = (length l.counts ≡ length l.floors) × (take l.i l.counts ≡ take l.i l.floors)
