-- `console_answers::entries::put_numbers` meets its contract: a row of numbers, of which the entries passed are
-- written.
use Rattle.console_answers.proofs.Rows.{each_none, each_more}
use Rattle.console_answers.proofs.entries.put_numbers.Goals as goal

pub loop-n-init : goal.loop-n-init
loop-n-init c = each_none _

pub loop-n-preserved : goal.loop-n-preserved
loop-n-preserved c = each_more _ _ c.loop-n.invariant c.put_entry.ensures
