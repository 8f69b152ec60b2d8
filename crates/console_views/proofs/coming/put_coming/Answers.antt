-- `console_views::coming::put_coming` meets its contract: of a title that is open its parts one behind the other, else nothing.
use borrow.Author.Tests.{eq-eqb, ne_eqb}
use Rattle.text.specs.Texts.{text}
use Rattle.text.proofs.Pages.{then, nothing}
use Rattle.console_views.specs.Titles.{coming_text}
use Rattle.console_views.proofs.coming.put_coming.Goals as goal

pub returns-then-t-eq-OPEN : goal.returns-then-t-eq-OPEN
unfolding coming_text text
returns-then-t-eq-OPEN c =
    rw (eq-eqb _ _ c.if-t-eq-OPEN.true, ← c.slot_from.ensures)
    (then (then (then c.put_doors.ensures c.put.ensures) c.put_clock.ensures) c.put_settled.ensures)

pub returns-else-t-eq-OPEN : goal.returns-else-t-eq-OPEN
unfolding coming_text
returns-else-t-eq-OPEN c = rw (ne_eqb _ _ c.if-t-eq-OPEN.false) nothing
