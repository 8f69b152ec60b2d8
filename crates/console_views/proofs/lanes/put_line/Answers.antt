-- `console_views::lanes::put_line` meets its contract: its parts are written one behind the other.
use Rattle.text.specs.Texts.{text}
use Rattle.text.proofs.Pages.{then}
use Rattle.console_views.specs.Lanes.{lane_line}
use Rattle.console_views.proofs.lanes.put_line.Goals as goal

pub returns : goal.returns
unfolding lane_line text
returns c = then (then (then c.put.ensures c.put_number.ensures) c.put-2.ensures) c.put_row.ensures
