-- `console_views::holding::put_count` meets its contract: the count of a title that is open, or that it is closing.
use borrow.Author.Tests.{eq-eqb, ne_eqb}
use Rattle.text.specs.Texts.{text}
use Rattle.text.proofs.Pages.{then}
use Rattle.console_views.specs.Titles.{count_text}
use Rattle.console_views.proofs.holding.put_count.Goals as goal

pub returns-then-t-eq-OPEN : goal.returns-then-t-eq-OPEN
unfolding count_text text
returns-then-t-eq-OPEN c =
    rw (eq-eqb _ _ c.if-t-eq-OPEN.true)
    (then (then (then c.put.ensures c.put_number.ensures) c.put-then-t-eq-OPEN.ensures) c.put_range.ensures)

pub returns-else-t-eq-OPEN : goal.returns-else-t-eq-OPEN
unfolding count_text text
returns-else-t-eq-OPEN c = rw (ne_eqb _ _ c.if-t-eq-OPEN.false) c.put-else-t-eq-OPEN.ensures
