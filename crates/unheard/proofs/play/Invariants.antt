-- What the loop keeps, and what falls.
use Rattle.logs.proofs.Reading.{PlayedTo, left}
use Rattle.unheard.specs.Unheard.{none_told}
use Rattle.unheard.specs.inner.Steps.{heard_count}
use Rattle.unheard.proofs.play.Given as goal

abbrev pub invariant-loop-counted : goal.invariant-loop-counted
invariant-loop-counted l = PlayedTo heard_count l.pool l.log none_told l.row l.counted.played l.counted.tally

abbrev pub decreases-loop-counted : goal.decreases-loop-counted
decreases-loop-counted l = left l.log l.counted.played
