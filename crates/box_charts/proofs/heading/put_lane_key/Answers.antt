-- `box_charts::heading::put_lane_key` meets its contract: its parts are written one behind the other.
use Rattle.text.specs.Texts.{text}
use Rattle.box_charts.specs.Heading.{lane_key}
use Rattle.text.proofs.Pages.{then}
use Rattle.box_charts.proofs.heading.put_lane_key.Goals as goal

pub returns : goal.returns
unfolding text lane_key
returns c =
    then (then (then (then (then c.put_rect.ensures c.put_lane_name.ensures) c.put_rect_end.ensures) c.put_label.ensures)
    c.put_lane_name-2.ensures) c.put_label_end.ensures
