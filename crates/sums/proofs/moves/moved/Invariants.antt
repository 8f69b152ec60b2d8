-- What the loop keeps, and what falls.
use mathlib.Core.Path.{◌≡◌}
use Rattle.sums.specs.inner.Moves.{moved_to}
use Rattle.sums.proofs.moves.moved.Given as goal

abbrev pub invariant-loop-i : goal.invariant-loop-i
invariant-loop-i l = l.r ≡ moved_to l.x l.k l.i
