-- `air::lines::put_judged` meets its contract: whether the admission is one of those judged.
use borrow.Author.Tests.{lt-ltb, le-ltb}
use Rattle.text.proofs.Pages.{nothing}
use Rattle.air.specs.inner.Steps.{judged_line}
use Rattle.air.proofs.lines.put_judged.Goals as goal

pub returns-then-j-judged : goal.returns-then-j-judged
unfolding judged_line
returns-then-j-judged c = rw (lt-ltb _ _ c.if-j-judged.true, ← c.result_at.ensures) c.put_admission.ensures

pub returns-else-j-judged : goal.returns-else-j-judged
unfolding judged_line
returns-else-j-judged c = rw (le-ltb _ _ c.if-j-judged.false) nothing
