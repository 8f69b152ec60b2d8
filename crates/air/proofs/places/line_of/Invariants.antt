-- What the loop keeps.
use mathlib.Core.Path.{◌≡◌}
use Rattle.air.specs.Places.{passed_to, line_to}
use Rattle.air.proofs.places.line_of.Given as goal

abbrev pub invariant-loop-b : goal.invariant-loop-b
invariant-loop-b l = (l.passed ≡ passed_to l.text l.b-index) × (l.line ≡ line_to l.text l.k l.b-index)
