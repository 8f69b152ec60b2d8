-- `box_charts::put_frame` meets its contract: its parts are written one behind the other.
use Rattle.box_charts.specs.Picture.{box_frame}
use Rattle.text.proofs.Pages.{then}
use Rattle.box_charts.proofs.put_frame.Goals as goal

pub returns : goal.returns
unfolding box_frame
returns c =
    then (then (then (then (then c.put_head.ensures c.put_heading.ensures) c.put_meaning_line.ensures) c.put_lane_keys.ensures)
    c.put_quarters.ensures) c.put_frames.ensures
