-- `box_charts::heading::put_lane_keys` meets its contract: lane by lane.
use Rattle.box_charts.proofs.Folds.{keys_none, keys_next}
use Rattle.box_charts.proofs.heading.put_lane_keys.Goals as goal

pub loop-lane-init : goal.loop-lane-init
loop-lane-init c = keys_none

pub loop-lane-preserved : goal.loop-lane-preserved
loop-lane-preserved c = keys_next c.loop-lane.lane c.loop-lane.invariant c.put_lane_key.ensures
