-- What the loop keeps, and what falls.
use mathlib.Core.Path.{◌≡◌}
use lib.ListN.{length}
use Rattle.agent_rows.specs.Layout.{row_length}
use Rattle.logs.proofs.Reading.{left}
use Rattle.log_marks.proofs.Going.{Going}
use Rattle.log_marks.proofs.playing.play.Given as goal

abbrev pub invariant-loop-played : goal.invariant-loop-played
invariant-loop-played l = Going l.v l.pool l.log l.initial.page l.initial.kept l.row l.played l.page l.kept × (length l.was ≡ row_length)

abbrev pub decreases-loop-played : goal.decreases-loop-played
decreases-loop-played l = left l.log l.played
