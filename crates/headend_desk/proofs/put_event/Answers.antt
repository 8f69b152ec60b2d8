-- `headend_desk::put_event` meets its contract: what the event is answered, what to type next behind it, and a newline.
use Rattle.text.proofs.Pages.{then}
use Rattle.headend_desk.specs.Desk.{answer_line}
use Rattle.headend_desk.proofs.put_event.Goals as goal

pub returns : goal.returns
unfolding answer_line
returns c = rw (← c.by_line.ensures) (then (then c.put_taken.ensures c.put_behind.ensures) c.put.ensures)
