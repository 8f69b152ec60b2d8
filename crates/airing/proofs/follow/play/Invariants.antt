-- What the loop keeps, and what falls.
use Rattle.logs.proofs.Reading.{PlayedTo, left}
use Rattle.airing.specs.inner.Steps.{heard_marks}
use Rattle.airing.proofs.follow.play.Given as goal

abbrev pub invariant-loop-played : goal.invariant-loop-played
invariant-loop-played l = PlayedTo (heard_marks l.title) l.pool l.log l.initial.marks l.row l.played l.marks

abbrev pub decreases-loop-played : goal.decreases-loop-played
decreases-loop-played l = left l.log l.played
