-- What the loop keeps.
use mathlib.Core.Path.{◌≡◌}
use lib.ListN.{length}
use Rattle.waits.specs.Arrivals.{arrivals_so_far, arrivals_to}
use Rattle.waits.proofs.arrivals.take_text.Given as goal

abbrev pub invariant-loop-i : goal.invariant-loop-i
invariant-loop-i l = (arrivals_so_far l.row l.scan ≡ arrivals_to l.text l.initial.row l.i) × (length l.row ≡ length l.initial.row)
