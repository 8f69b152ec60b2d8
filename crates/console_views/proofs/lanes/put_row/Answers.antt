-- `console_views::lanes::put_row` meets its contract: the ticks passed are written.
use Rattle.console_answers.proofs.Rows.{each_none, each_more}
use Rattle.console_views.proofs.lanes.put_row.Goals as goal

pub loop-j-init : goal.loop-j-init
loop-j-init c = each_none _

pub loop-j-preserved : goal.loop-j-preserved
loop-j-preserved c = each_more _ _ c.loop-j.invariant c.put_shown.ensures
