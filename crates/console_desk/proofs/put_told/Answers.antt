-- `console_desk::put_told` meets its contract: a fresh agent's answer alone, or an event's or a notice's with the lanes held.
use borrow.Author.Tests.{eq-eqb, ne_eqb}
use Rattle.console_desk.specs.Desk.{told_text}
use Rattle.console_desk.proofs.put_told.Goals as goal

pub returns-then-command-eq-FRESH : goal.returns-then-command-eq-FRESH
unfolding told_text
returns-then-command-eq-FRESH c = rw (eq-eqb _ _ c.if-command-eq-FRESH.true) c.put_done.ensures

pub returns-else-command-eq-FRESH : goal.returns-else-command-eq-FRESH
unfolding told_text
returns-else-command-eq-FRESH c = rw (ne_eqb _ _ c.if-command-eq-FRESH.false, ← c.by_line.ensures) c.put_followed.ensures
