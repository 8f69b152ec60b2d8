-- What the loop keeps.
use mathlib.Core.Path.{◌≡◌}
use lib.ListN.{length}
use Rattle.story.specs.Calls.{status_count, status_held, status_mark}
use Rattle.status.proofs.Filled.{Filled}
use Rattle.status.proofs.fill.Given as goal

abbrev pub invariant-loop-i : goal.invariant-loop-i
invariant-loop-i l = (length l.counts ≡ length l.ids)
    × (length l.held ≡ length l.ids)
    × (length l.marks ≡ length l.ids)
    × Filled (λ j. status_count l.s j) l.ids l.counts l.i
    × Filled (λ j. status_held l.s j l.time) l.ids l.held l.i
    × Filled (λ j. status_mark l.s j) l.ids l.marks l.i
