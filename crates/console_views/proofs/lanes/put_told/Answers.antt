-- `console_views::lanes::put_told` meets its contract: 0 and what the lanes show, or the refusal.
use mathlib.Core.Path.{sym, ◌∙◌}
use borrow.Author.Tests.{eq-eqb, ne_eqb}
use Rattle.text.specs.Texts.{text}
use Rattle.text.proofs.Pages.{then}
use Rattle.console_views.specs.Lanes.{lanes_told}
use Rattle.console_views.proofs.lanes.put_told.Goals as goal

pub put_all-requires : goal.put_all-requires
put_all-requires c = sym c.lanes_verdict-answer.ensures ∙ c.if-answer-eq-DONE.true

pub returns-then-answer-eq-DONE : goal.returns-then-answer-eq-DONE
unfolding lanes_told text
returns-then-answer-eq-DONE c =
    rw (← c.lanes_verdict-answer.ensures, eq-eqb _ _ c.if-answer-eq-DONE.true) (then c.put.ensures c.put_all.ensures)

pub returns-else-answer-eq-DONE : goal.returns-else-answer-eq-DONE
unfolding lanes_told
returns-else-answer-eq-DONE c =
    rw (← c.lanes_verdict-answer.ensures, ne_eqb _ _ c.if-answer-eq-DONE.false) c.put_refusal.ensures
