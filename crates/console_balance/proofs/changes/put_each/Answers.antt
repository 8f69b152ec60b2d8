-- `console_balance::changes::put_each` meets its contract: the changes passed are written.
use Rattle.console_answers.proofs.Rows.{each_none, each_more}
use Rattle.console_balance.proofs.changes.put_each.Goals as goal

pub loop-i-init : goal.loop-i-init
loop-i-init c = each_none _

pub loop-i-preserved : goal.loop-i-preserved
loop-i-preserved c = each_more _ _ c.loop-i.invariant c.put_change.ensures
