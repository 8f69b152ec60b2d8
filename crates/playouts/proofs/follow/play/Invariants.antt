-- What the loop keeps, and what falls.
use Rattle.logs.proofs.Reading.{PlayedTo, left}
use Rattle.playouts.specs.inner.Steps.{heard_numbers}
use Rattle.playouts.proofs.follow.play.Given as goal

abbrev pub invariant-loop-played : goal.invariant-loop-played
invariant-loop-played l = PlayedTo (heard_numbers l.title l.opening l.from) l.pool l.log l.initial.numbers l.row l.played l.numbers

abbrev pub decreases-loop-played : goal.decreases-loop-played
decreases-loop-played l = left l.log l.played
