-- `give` meets its contract, by whether the answer is that it is done.
use Rattle.rongalishu.proofs.Told.{with_numbers, as_it_was}
use Rattle.rongalishu.proofs.results.give.Goals as goal

pub returns-then-answer-eq-DONE-clause-leaves : goal.returns-then-answer-eq-DONE-clause-leaves
returns-then-answer-eq-DONE-clause-leaves c = rw c.copy_from_slice.ensures.after (with_numbers _ _ _ c.if-answer-eq-DONE.true)

pub returns-else-answer-eq-DONE-clause-leaves : goal.returns-else-answer-eq-DONE-clause-leaves
returns-else-answer-eq-DONE-clause-leaves c = as_it_was _ _ _ c.if-answer-eq-DONE.false
