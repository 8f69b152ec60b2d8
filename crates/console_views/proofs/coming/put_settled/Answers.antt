-- `console_views::coming::put_settled` meets its contract: that there is no change, or from when on it may come.
use borrow.Author.Tests.{eq-eqb, ne_eqb}
use Rattle.text.specs.Texts.{text}
use Rattle.text.proofs.Pages.{then}
use Rattle.console_views.specs.Titles.{settled_text}
use Rattle.console_views.proofs.coming.put_settled.Goals as goal

pub returns-then-t-eq-STEADY : goal.returns-then-t-eq-STEADY
unfolding settled_text text
returns-then-t-eq-STEADY c = rw (eq-eqb _ _ c.if-t-eq-STEADY.true) c.put.ensures

pub returns-else-t-eq-STEADY : goal.returns-else-t-eq-STEADY
unfolding settled_text text
returns-else-t-eq-STEADY c =
    rw (ne_eqb _ _ c.if-t-eq-STEADY.false, ← c.settled_at.ensures) (then c.put-else-t-eq-STEADY.ensures c.put_clock.ensures)
