-- `console_reasons::events::put_clock_words` meets its contract: the time behind the words where the clock has it, else the others.
use borrow.Author.Tests.{le-leb, lt-leb}
use Rattle.text.proofs.Pages.{then}
use Rattle.console_reasons.specs.Events.{clock_words}
use Rattle.console_reasons.proofs.events.put_clock_words.Goals as goal

pub returns-then-time-le-EVENT_TIME_MAX : goal.returns-then-time-le-EVENT_TIME_MAX
unfolding clock_words
returns-then-time-le-EVENT_TIME_MAX c = rw (le-leb _ _ c.if-time-le-EVENT_TIME_MAX.true) (then c.put.ensures c.put_number.ensures)

pub returns-else-time-le-EVENT_TIME_MAX : goal.returns-else-time-le-EVENT_TIME_MAX
unfolding clock_words
returns-else-time-le-EVENT_TIME_MAX c = rw (lt-leb _ _ c.if-time-le-EVENT_TIME_MAX.false) c.put-else-time-le-EVENT_TIME_MAX.ensures
