-- `console_views::lanes::put_lanes` meets its contract: the reason stands behind the answer.
use Rattle.text.proofs.Pages.{then}
use Rattle.console_views.specs.Lanes.{lanes_text}
use Rattle.console_views.proofs.lanes.put_lanes.Goals as goal

pub returns : goal.returns
unfolding lanes_text
returns c = rw (← c.lanes_verdict.ensures) (then c.put_told.ensures c.put_reason.ensures)
