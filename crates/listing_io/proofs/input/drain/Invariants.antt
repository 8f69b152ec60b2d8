-- What the loop keeps, and what falls.
use Rattle.listing_io.specs.Listing.{UpTo}
use Rattle.listing_io.proofs.StepPlaces.{left}
use Rattle.listing_io.proofs.input.drain.Given as goal

abbrev pub invariant-loop-written : goal.invariant-loop-written
invariant-loop-written l = UpTo l.initial.listed.agent l.bytes l.listed

abbrev pub decreases-loop-written : goal.decreases-loop-written
decreases-loop-written l = left l.bytes l.listed
