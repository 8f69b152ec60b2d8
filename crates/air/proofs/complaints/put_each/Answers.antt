-- `air::complaints::put_each` meets its contract: its lines are written one behind the other.
use Rattle.text.proofs.Pages.{then}
use Rattle.air.specs.Complaints.{air_complaints}
use Rattle.air.proofs.complaints.put_each.Goals as goal

pub returns : goal.returns
unfolding air_complaints
returns c =
    rw (← c.first_stray-stray.ensures)
    (then (then (then c.put_unheard.ensures c.put_long.ensures) c.put_skip.ensures) c.put_stray.ensures)
