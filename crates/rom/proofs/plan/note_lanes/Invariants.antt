-- What the loop keeps.
use mathlib.Core.Path.{◌≡◌}
use Rattle.rom.specs.Plan.{noted_lanes}
use Rattle.rom.proofs.plan.note_lanes.Given as goal

abbrev pub invariant-loop-lane : goal.invariant-loop-lane
invariant-loop-lane l = l.row ≡ noted_lanes l.table l.initial.row l.tick l.after l.lane
