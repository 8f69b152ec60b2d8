-- `console_views::holding::put_each` meets its contract: the lanes passed are written.
use Rattle.console_answers.proofs.Rows.{each_none, each_more}
use Rattle.console_views.proofs.holding.put_each.Goals as goal

pub loop-lane-init : goal.loop-lane-init
loop-lane-init c = each_none _

pub loop-lane-preserved : goal.loop-lane-preserved
loop-lane-preserved c = each_more _ _ c.loop-lane.invariant c.put_sending.ensures
