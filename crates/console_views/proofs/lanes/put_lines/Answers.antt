-- `console_views::lanes::put_lines` meets its contract: the lanes passed have their lines.
use Rattle.console_answers.proofs.Rows.{each_none, each_more}
use Rattle.console_views.proofs.lanes.put_lines.Goals as goal

pub loop-lane-init : goal.loop-lane-init
loop-lane-init c = each_none _

pub loop-lane-preserved : goal.loop-lane-preserved
loop-lane-preserved c = each_more _ _ c.loop-lane.invariant c.put_line.ensures
