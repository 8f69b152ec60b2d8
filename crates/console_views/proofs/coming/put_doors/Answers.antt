-- `console_views::coming::put_doors` meets its contract: one text of two.
use borrow.Author.Tests.{eq-eqb, ne_eqb}
use Rattle.text.specs.Texts.{text}
use Rattle.console_views.specs.Titles.{doors_text}
use Rattle.console_views.proofs.coming.put_doors.Goals as goal

pub returns-then-t-eq-HELD : goal.returns-then-t-eq-HELD
unfolding doors_text text
returns-then-t-eq-HELD c = rw (eq-eqb _ _ c.if-t-eq-HELD.true) c.put.ensures

pub returns-else-t-eq-HELD : goal.returns-else-t-eq-HELD
unfolding doors_text text
returns-else-t-eq-HELD c = rw (ne_eqb _ _ c.if-t-eq-HELD.false) c.put-else-t-eq-HELD.ensures
