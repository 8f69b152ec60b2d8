-- `console_boxes::lanes::put_lane` meets its contract: the scheduler's answer and cell, and why it is refused.
use Rattle.text.proofs.Pages.{then}
use Rattle.console_boxes.proofs.Answered.{lane_told_lem}
use Rattle.console_boxes.proofs.lanes.put_lane.Goals as goal

pub returns : goal.returns
returns c =
    lane_told_lem c.args.s c.args.id c.args.lane c.args.time _ _ c.lane-shown.ensures.0 c.lane-shown.ensures.1
    (then c.put_value.ensures c.put_lane_reason.ensures)
