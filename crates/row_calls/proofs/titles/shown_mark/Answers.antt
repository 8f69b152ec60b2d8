-- `shown_mark` meets its contract: each way out decides whether the count shows 0.
use borrow.Author.Tests.{eq-eqb, ne_eqb}
use Rattle.row_calls.proofs.titles.shown_mark.Goals as goal

pub returns-then-count-eq0 : goal.returns-then-count-eq0
returns-then-count-eq0 c = simp (← c.ruling-count.ensures, eq-eqb _ _ c.if-count-eq0.true)

pub returns : goal.returns
returns c = simp (← c.ruling-count.ensures, ne_eqb _ _ c.if-count-eq0.false)
