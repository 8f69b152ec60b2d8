-- `air::complaints::put_long` meets its contract: a line for a record that is too long.
use borrow.Author.Tests.{lt-ltb, le-ltb}
use Rattle.text.specs.Texts.{text}
use Rattle.text.proofs.Pages.{nothing}
use Rattle.air.specs.Complaints.{long_line}
use Rattle.air.proofs.complaints.put_long.Goals as goal

pub returns-then-record-gt-TICKS_MAX : goal.returns-then-record-gt-TICKS_MAX
unfolding long_line text
returns-then-record-gt-TICKS_MAX c = rw (lt-ltb _ _ c.if-record-gt-TICKS_MAX.true) c.put_line.ensures

pub returns-else-record-gt-TICKS_MAX : goal.returns-else-record-gt-TICKS_MAX
unfolding long_line
returns-else-record-gt-TICKS_MAX c = rw (le-ltb _ _ c.if-record-gt-TICKS_MAX.false) nothing
