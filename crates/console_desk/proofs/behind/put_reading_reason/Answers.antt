-- `console_desk::behind::put_reading_reason` meets its contract: a notice's own event, and nothing of other bytes.
use Rattle.text.proofs.Pages.{nothing}
use Rattle.console_desk.proofs.behind.put_reading_reason.Goals as goal

pub returns-in-Whole : goal.returns-in-Whole
returns-in-Whole c = rw (c.in-Whole.is, ← c.event_of.ensures) c.put_reason.ensures

pub returns-in-Malformed : goal.returns-in-Malformed
returns-in-Malformed c = rw c.in-Malformed.is nothing
