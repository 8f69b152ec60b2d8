-- `console_drawing::drawn::title_in` meets its contract: the notice's id, or the line's first number.
use borrow.Author.Tests.{eq-eqb, ne_eqb}
use Rattle.console_drawing.specs.Drawn.{title_in}
use Rattle.console_drawing.proofs.drawn.title_in.Goals as goal

pub returns-then-command-eq-NOTICE : goal.returns-then-command-eq-NOTICE
unfolding title_in
returns-then-command-eq-NOTICE c =
    let at-reading = c in
    rw (eq-eqb _ _ at-reading.if-command-eq-NOTICE.true, ← at-reading.reading.ensures) c.title_read.ensures

pub returns : goal.returns
unfolding title_in
returns c = rw (ne_eqb _ _ c.if-command-eq-NOTICE.false)
