-- What the loop keeps, and what falls.
use Rattle.logs.proofs.Reading.{PlayedTo, left}
use Rattle.spans.specs.Extents.{no_extent, heard_extent}
use Rattle.spans.proofs.play.Given as goal

abbrev pub invariant-loop-measured : goal.invariant-loop-measured
invariant-loop-measured l = PlayedTo heard_extent l.pool l.log no_extent l.row l.measured.played l.measured.extent

abbrev pub decreases-loop-measured : goal.decreases-loop-measured
decreases-loop-measured l = left l.log l.measured.played
