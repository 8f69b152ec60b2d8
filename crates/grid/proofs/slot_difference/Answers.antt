-- `grid::slot_difference` meets its contract: the two numbers are small enough for their difference to fit.
-- Rests on the laws of signed numbers.
use Rattle.grid.proofs.Signed.{diff_fits, diff_read}
use Rattle.grid.proofs.slot_difference.Goals as goal

pub overflow_sub-result : goal.overflow_sub-result
overflow_sub-result c = diff_fits c.args.j c.args.s c.requires.0 c.requires.1

pub returns : goal.returns
returns c = diff_read c.args.j c.args.s c.requires.0 c.requires.1
