-- `waits::complaints::put_lines` meets its contract: its lines are written one behind the other.
use Rattle.text.proofs.Pages.{then}
use Rattle.waits.specs.Complaints.{waits_complaints}
use Rattle.waits.proofs.complaints.put_lines.Goals as goal

pub returns : goal.returns
unfolding waits_complaints
returns c = then (then c.put_unheard.ensures c.put_many.ensures) c.put_never.ensures
