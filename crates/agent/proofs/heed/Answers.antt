-- `agent::heed` meets its contract: the test of the turn, then the event's answer.
use Rattle.agent.proofs.Turns.{turn_taken, turn_refused, turn_other}
use Rattle.agent.proofs.heed.Goals as goal

pub returns-then-n-last : goal.returns-then-n-last
returns-then-n-last c = turn_other _ _ c.if-n-last.true

pub returns-then-answer-eq-DONE : goal.returns-then-answer-eq-DONE
returns-then-answer-eq-DONE c =
    turn_taken _ _ _ _ c.if-n-last.false c.enact-outcome.ensures.0 c.enact-outcome.ensures.1 c.if-answer-eq-DONE.true

pub returns : goal.returns
returns c = turn_refused _ _ _ c.if-n-last.false c.enact-outcome.ensures.0 c.if-answer-eq-DONE.false
