-- `console_desk::put_followed` meets its contract: the scheduler's lanes held behind the answer.
use Rattle.console_desk.specs.Desk.{followed_text}
use Rattle.console_desk.proofs.put_followed.Goals as goal

pub returns : goal.returns
unfolding followed_text
returns c = rw (← c.held-held.ensures.1) c.put_value.ensures
