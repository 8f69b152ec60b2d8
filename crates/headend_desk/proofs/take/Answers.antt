-- `headend_desk::take` meets its contract: the scheduler's answer, then the test of the sequence.
use Rattle.headend_desk.proofs.Taking.{takes, takes_late, takes_refused}
use Rattle.headend_desk.proofs.take.Goals as goal

pub returns-then-last-lt-LAST_SEQUENCE : goal.returns-then-last-lt-LAST_SEQUENCE
returns-then-last-lt-LAST_SEQUENCE c =
    let at-if2 = c in
    let at-if1 = at-if2 in
    let at_call = at-if1 in
    let called = at_call.call-outcome.ensures in
    takes _ _ _ called.0 _ called.1 at-if1.if-answer-eq-DONE.true at-if2.if-last-lt-LAST_SEQUENCE.true

pub returns-then-answer-eq-DONE : goal.returns-then-answer-eq-DONE
returns-then-answer-eq-DONE c = takes_late _ _ _ c.call-outcome.ensures.0 c.if-answer-eq-DONE.true c.if-last-lt-LAST_SEQUENCE.false

pub returns : goal.returns
returns c = takes_refused _ _ _ c.call-outcome.ensures.0 c.if-answer-eq-DONE.false
