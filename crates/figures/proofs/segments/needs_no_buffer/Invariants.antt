-- What the loop keeps: the cells passed were all on the air.
use mathlib.Core.Path.{◌≡◌}
use mathlib.Core.Bool.{true}
use Rattle.figures.specs.Segments.{needs_no_buffer}
use Rattle.figures.proofs.segments.needs_no_buffer.Given as goal

abbrev pub invariant-loop-cell : goal.invariant-loop-cell
invariant-loop-cell l = needs_no_buffer l.start l.cell ≡ true
