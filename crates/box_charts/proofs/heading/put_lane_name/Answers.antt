-- `box_charts::heading::put_lane_name` meets its contract: its parts are written one behind the other.
use Rattle.text.specs.Texts.{text}
use Rattle.box_charts.specs.Heading.{lane_name}
use Rattle.text.proofs.Pages.{then}
use Rattle.box_charts.proofs.heading.put_lane_name.Goals as goal

pub returns : goal.returns
unfolding text lane_name
returns c = then c.put.ensures c.put_number.ensures
