-- `waits::lines::put_mean` meets its contract: a dash where nobody got in.
use borrow.Author.Tests.{eq-eqb, ne_eqb}
use Rattle.text.specs.Texts.{text}
use Rattle.waits.specs.Lines.{mean_line}
use Rattle.waits.proofs.lines.put_mean.Goals as goal

pub returns-then-n-eq0 : goal.returns-then-n-eq0
unfolding mean_line text
returns-then-n-eq0 c = rw (eq-eqb _ _ c.if-n-eq0.true) c.put.ensures

pub returns-else-n-eq0 : goal.returns-else-n-eq0
unfolding mean_line text
returns-else-n-eq0 c =
    rw (ne_eqb _ _ c.if-n-eq0.false, ← c.mean.ensures)
    c.put_line.ensures
