-- `playout::complaints::put_never` meets its contract: a line for a title that is not there.
use borrow.Author.Tests.{eq-eqb, ne_eqb}
use Rattle.text.specs.Texts.{text}
use Rattle.text.proofs.Pages.{nothing}
use Rattle.playout.specs.Complaints.{unopened_line}
use Rattle.playout.proofs.complaints.put_never.Goals as goal

pub returns-then-answer-eq-NOT_THERE : goal.returns-then-answer-eq-NOT_THERE
unfolding unopened_line text
returns-then-answer-eq-NOT_THERE c = rw (eq-eqb _ _ c.if-answer-eq-NOT_THERE.true) c.put_line.ensures

pub returns-else-answer-eq-NOT_THERE : goal.returns-else-answer-eq-NOT_THERE
unfolding unopened_line
returns-else-answer-eq-NOT_THERE c = rw (ne_eqb _ _ c.if-answer-eq-NOT_THERE.false) nothing
