-- What the loop keeps, and what falls.
use Rattle.logs.proofs.Reading.{PlayedTo, left}
use Rattle.admissions.specs.Stretches.{fresh_tally}
use Rattle.waiting.specs.inner.Steps.{heard_tally}
use Rattle.waiting.proofs.play.Given as goal

abbrev pub invariant-loop-counted : goal.invariant-loop-counted
invariant-loop-counted l = PlayedTo (heard_tally l.title l.arrivals) l.pool l.log (fresh_tally 0) l.row l.counted.played l.counted.tally

abbrev pub decreases-loop-counted : goal.decreases-loop-counted
decreases-loop-counted l = left l.log l.counted.played
