-- What the loop keeps.
use mathlib.Core.Path.{◌≡◌}
use Rattle.judging.specs.inner.Walk.{row_to, counts_to}
use Rattle.judging.proofs.telling.tell.Given as goal

abbrev pub invariant-loop-start : goal.invariant-loop-start
invariant-loop-start l = (l.row ≡ row_to l.results l.marks l.cells l.ticks l.initial.row l.start) × (l.counts ≡ counts_to l.results l.marks l.cells l.ticks l.start)
