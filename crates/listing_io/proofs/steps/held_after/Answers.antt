-- `listing_io::steps::held_after_lem` meets its contract, by the answer.
use borrow.Author.Tests.{eq-eqb, ne_eqb}
use Rattle.listing_io.specs.Step.{held_after}
use Rattle.listing_io.proofs.steps.held_after.Goals as goal

pub returns-then-answer-eq-DONE : goal.returns-then-answer-eq-DONE
unfolding held_after
returns-then-answer-eq-DONE c = rw (eq-eqb _ _ c.if-answer-eq-DONE.true) c.held.ensures.1

pub returns : goal.returns
unfolding held_after
returns c = rw (ne_eqb _ _ c.if-answer-eq-DONE.false) c.held-2.ensures.1
