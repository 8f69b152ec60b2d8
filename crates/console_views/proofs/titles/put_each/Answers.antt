-- `console_views::titles::put_each` meets its contract: the titles passed have their lines.
use Rattle.console_answers.proofs.Rows.{each_none, each_more}
use Rattle.console_views.proofs.titles.put_each.Goals as goal

pub loop-id-init : goal.loop-id-init
loop-id-init c = each_none _

pub loop-id-preserved : goal.loop-id-preserved
loop-id-preserved c = each_more _ _ c.loop-id.invariant c.put_title.ensures
