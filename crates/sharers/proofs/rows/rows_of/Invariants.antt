-- What the loop keeps.
use mathlib.Core.Path.{◌≡◌}
use Rattle.sharers.specs.Rows.{rows_to}
use Rattle.sharers.proofs.rows.rows_of.Given as goal

abbrev pub invariant-loop-i : goal.invariant-loop-i
invariant-loop-i l = l.q ≡ rows_to l.fn.s l.rates l.i
