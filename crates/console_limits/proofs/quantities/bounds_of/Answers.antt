-- `console_limits::quantities::bounds_of` meets its contract: the code's limits are those of the definitions' table.
use Rattle.std.proofs.Common.{rules}
use Rattle.console_limits.specs.Quantities.{bounds_table}
use Rattle.console_limits.proofs.Tables.{bounds_lent}
use Rattle.console_limits.proofs.quantities.bounds_of.Goals as goal

pub returns : goal.returns
unfolding bounds_table
returns c = rw (c.unwrap_or.ensures, c.copied.ensures) (bounds_lent c.args.quantity c.get.result (search rules))
