-- `console_desk::telling::tell` meets its contract: help, 0 for draw, a reading, or the bytes of the line's notice.
use borrow.Author.Tests.{eq-eqb, ne_eqb}
use Rattle.text.specs.Texts.{text}
use Rattle.console_desk.specs.Asks.{tell_text}
use Rattle.console_desk.proofs.telling.tell.Goals as goal

pub returns-then-command-eq-HELP : goal.returns-then-command-eq-HELP
unfolding tell_text
returns-then-command-eq-HELP c = rw (eq-eqb _ _ c.if-command-eq-HELP.true) c.put_help.ensures

pub returns-then-command-eq-DRAW : goal.returns-then-command-eq-DRAW
unfolding tell_text text
returns-then-command-eq-DRAW c =
    rw (ne_eqb _ _ c.if-command-eq-HELP.false, eq-eqb _ _ c.if-command-eq-DRAW.true)
    c.put.ensures

pub returns-then-command-eq-READ : goal.returns-then-command-eq-READ
unfolding tell_text
returns-then-command-eq-READ c =
    rw (
      ne_eqb _ _ c.if-command-eq-HELP.false,
      ne_eqb _ _ c.if-command-eq-DRAW.false,
      eq-eqb _ _ c.if-command-eq-READ.true,
      ← c.reading.ensures,
    )
    c.put_reading.ensures

pub returns-else-command-eq-READ : goal.returns-else-command-eq-READ
unfolding tell_text
returns-else-command-eq-READ c =
    rw (
      ne_eqb _ _ c.if-command-eq-HELP.false,
      ne_eqb _ _ c.if-command-eq-DRAW.false,
      ne_eqb _ _ c.if-command-eq-READ.false,
      ← c.notice_of.ensures,
    )
    c.put_bytes.ensures
