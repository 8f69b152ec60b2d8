-- `console_views::holding::put_range` meets its contract: nothing of a title whose count is steady, else its parts one behind the other.
use borrow.Author.Tests.{eq-eqb, ne_eqb}
use Rattle.text.specs.Texts.{text}
use Rattle.text.proofs.Pages.{then, nothing}
use Rattle.console_views.specs.Titles.{range_text}
use Rattle.console_views.proofs.holding.put_range.Goals as goal

pub returns-then-t-ne-STEADY : goal.returns-then-t-ne-STEADY
unfolding range_text text
returns-then-t-ne-STEADY c =
    rw (ne_eqb _ _ c.if-t-ne-STEADY.true)
    (then (then (then c.put.ensures c.put_number.ensures) c.put-then-t-ne-STEADY.ensures) c.put_number-then-t-ne-STEADY.ensures)

pub returns-else-t-ne-STEADY : goal.returns-else-t-ne-STEADY
unfolding range_text
returns-else-t-ne-STEADY c = rw (eq-eqb _ _ c.if-t-ne-STEADY.false) nothing
