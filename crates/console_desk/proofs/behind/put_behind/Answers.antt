-- `console_desk::behind::put_behind` meets its contract: fresh, a notice, or an event, as the definition tests them.
use borrow.Author.Tests.{eq-eqb, ne_eqb}
use Rattle.console_desk.specs.Behind.{behind_in}
use Rattle.console_desk.proofs.behind.put_behind.Goals as goal

pub returns-then-command-eq-FRESH : goal.returns-then-command-eq-FRESH
unfolding behind_in
returns-then-command-eq-FRESH c = rw (eq-eqb _ _ c.if-command-eq-FRESH.true) c.put_limits.ensures

pub returns-then-command-eq-NOTICE : goal.returns-then-command-eq-NOTICE
unfolding behind_in
returns-then-command-eq-NOTICE c =
    rw (ne_eqb _ _ c.if-command-eq-FRESH.false, eq-eqb _ _ c.if-command-eq-NOTICE.true, ← c.reading.ensures)
    c.put_reading_reason.ensures

pub returns-else-command-eq-NOTICE : goal.returns-else-command-eq-NOTICE
unfolding behind_in
returns-else-command-eq-NOTICE c =
    rw (ne_eqb _ _ c.if-command-eq-FRESH.false, ne_eqb _ _ c.if-command-eq-NOTICE.false, ← c.event_in.ensures)
    c.put_reason.ensures
