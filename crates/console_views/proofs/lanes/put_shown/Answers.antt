-- `console_views::lanes::put_shown` meets its contract: the cell of a lane question that is answered, or the point.
use borrow.Author.Tests.{eq-eqb, ne_eqb}
use Rattle.text.specs.Texts.{text}
use Rattle.console_views.specs.Lanes.{shown_text}
use Rattle.console_views.proofs.lanes.put_shown.Goals as goal

pub returns-then-answer-eq-DONE : goal.returns-then-answer-eq-DONE
unfolding shown_text
returns-then-answer-eq-DONE c =
    let asked = c.lane-shown in
    rw (← asked.ensures.0, eq-eqb _ _ c.if-answer-eq-DONE.true, ← asked.ensures.1) c.put_entry.ensures

pub returns-else-answer-eq-DONE : goal.returns-else-answer-eq-DONE
unfolding shown_text text
returns-else-answer-eq-DONE c = rw (← c.lane-shown.ensures.0, ne_eqb _ _ c.if-answer-eq-DONE.false) c.put.ensures
