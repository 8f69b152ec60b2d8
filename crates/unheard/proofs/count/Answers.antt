-- `unheard::count` meets its contract: a notice that counts, the first that does not, or a later one.
use Rattle.unheard.proofs.Answers.{counts_heard, counts_first, counts_later}
use Rattle.unheard.proofs.count.Goals as goal

pub returns-then-answer-eq-DONE : goal.returns-then-answer-eq-DONE
returns-then-answer-eq-DONE c = counts_heard _ _ c.if-answer-eq-DONE.true

pub returns-then-missed-eq0 : goal.returns-then-missed-eq0
returns-then-missed-eq0 c = counts_first _ _ c.if-answer-eq-DONE.false c.if-missed-eq0.true

pub returns-else-missed-eq0 : goal.returns-else-missed-eq0
returns-else-missed-eq0 c = counts_later _ _ c.if-answer-eq-DONE.false c.if-missed-eq0.false
