-- `console_drawing::drawn::put_event` meets its contract: the title of an event that is accepted, in the state after it.
use Rattle.console_drawing.proofs.Behind.{draws_accepted, draws_refused}
use Rattle.console_drawing.proofs.drawn.put_event.Goals as goal

pub returns-then-answer-eq-DONE : goal.returns-then-answer-eq-DONE
returns-then-answer-eq-DONE c =
    let x = c.args in
    draws_accepted x.agent _ x.line x.s.now _ c.follow-f.ensures.0 _ c.if-answer-eq-DONE.true c.follow-f.ensures.1
    c.title_in.ensures c.put_picture.ensures

pub returns-else-answer-eq-DONE : goal.returns-else-answer-eq-DONE
returns-else-answer-eq-DONE c =
    let x = c.args in
    draws_refused x.agent x.agent x.line x.s.now _ c.follow-f.ensures.0 c.if-answer-eq-DONE.false
