-- What the loop keeps: the places passed hold the plan's slots.
use mathlib.Core.Path.{◌≡◌}
use lib.ListN.{length}
use Rattle.plans.specs.Forward.{skip_at}
use Rattle.figures.proofs.Filling.{Filled}
use Rattle.figures.proofs.steady.taken_from.Given as goal

abbrev pub invariant-loop-i : goal.invariant-loop-i
invariant-loop-i l =
    (length l.row ≡ 8) × (Filled (skip_at 4 l.start) l.row l.i × ((length l.slot-items ≡ 8) × Filled (skip_at 4 l.start) l.slot-items 8))
