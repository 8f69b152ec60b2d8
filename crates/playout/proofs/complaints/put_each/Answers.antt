-- `playout::complaints::put_each` meets its contract: its lines are written one behind the other.
use Rattle.text.proofs.Pages.{then}
use Rattle.playout.specs.Complaints.{playout_complaints}
use Rattle.playout.proofs.complaints.put_each.Goals as goal

pub returns : goal.returns
unfolding playout_complaints
returns c = rw (← c.answer_of-answer.ensures) (then c.put_unheard.ensures c.put_never.ensures)
