-- What the loop keeps.
use mathlib.Core.Path.{◌≡◌}
use Rattle.judging.specs.inner.Walk.{noted}
use Rattle.judging.proofs.next.note.Given as goal

abbrev pub invariant-loop-lane : goal.invariant-loop-lane
invariant-loop-lane l = l.next ≡ noted l.air l.tick l.initial.next l.lane
