-- What the loop keeps.
use Rattle.box_charts.specs.Heading.{lane_keys}
use Rattle.text.specs.Pages.{Puts}
use Rattle.box_charts.proofs.heading.put_lane_keys.Given as goal

abbrev pub invariant-loop-lane : goal.invariant-loop-lane
invariant-loop-lane l = Puts l.initial.page (lane_keys l.lane) l.page
