-- `console_views::films::put_kind` meets its contract: one text of two.
use borrow.Author.Tests.{eq-eqb, ne_eqb}
use Rattle.text.specs.Texts.{text}
use Rattle.console_views.proofs.films.put_kind.Goals as goal

pub returns-then-kind-eq-STEADY : goal.returns-then-kind-eq-STEADY
unfolding text
returns-then-kind-eq-STEADY c = rw (eq-eqb _ _ c.if-kind-eq-STEADY.true) c.put.ensures

pub returns-else-kind-eq-STEADY : goal.returns-else-kind-eq-STEADY
unfolding text
returns-else-kind-eq-STEADY c = rw (ne_eqb _ _ c.if-kind-eq-STEADY.false) c.put-else-kind-eq-STEADY.ensures
