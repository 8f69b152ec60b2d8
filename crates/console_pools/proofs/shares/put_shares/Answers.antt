-- `console_pools::shares::put_shares` meets its contract: a row of counts, of which the entries passed are written.
use Rattle.console_answers.proofs.Rows.{each_none, each_more}
use Rattle.console_pools.proofs.shares.put_shares.Goals as goal

pub loop-n-init : goal.loop-n-init
loop-n-init c = each_none _

pub loop-n-preserved : goal.loop-n-preserved
loop-n-preserved c = each_more _ _ c.loop-n.invariant (rw c.from.ensures at c.put_entry.ensures)
