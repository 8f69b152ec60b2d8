-- `air::complaints::put_stray` meets its contract: a line for a number that the title does not have.
use borrow.Author.Tests.{lt-ltb, le-ltb}
use Rattle.text.proofs.Pages.{nothing}
use Rattle.air.specs.Complaints.{stray_text}
use Rattle.air.proofs.complaints.put_stray.Goals as goal

pub returns-then-k-size : goal.returns-then-k-size
unfolding stray_text
returns-then-k-size c = rw (lt-ltb _ _ c.if-k-size.true) c.put_place.ensures

pub returns-else-k-size : goal.returns-else-k-size
unfolding stray_text
returns-else-k-size c = rw (le-ltb _ _ c.if-k-size.false) nothing
