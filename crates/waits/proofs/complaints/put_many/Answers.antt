-- `waits::complaints::put_many` meets its contract: a line for a row that is too long.
use borrow.Author.Tests.{lt-ltb, le-ltb}
use Rattle.text.specs.Texts.{text}
use Rattle.text.proofs.Pages.{nothing}
use Rattle.waits.specs.Complaints.{many_line}
use Rattle.waits.proofs.complaints.put_many.Goals as goal

pub returns-then-arrivals-gt-ROW_MAX : goal.returns-then-arrivals-gt-ROW_MAX
unfolding many_line text
returns-then-arrivals-gt-ROW_MAX c = rw (lt-ltb _ _ c.if-arrivals-gt-ROW_MAX.true) c.put_line.ensures

pub returns-else-arrivals-gt-ROW_MAX : goal.returns-else-arrivals-gt-ROW_MAX
unfolding many_line
returns-else-arrivals-gt-ROW_MAX c = rw (le-ltb _ _ c.if-arrivals-gt-ROW_MAX.false) nothing
