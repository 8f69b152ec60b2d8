-- `console_limits::quantities::row_of` meets its contract: the code's rows are those of the definitions' table.
use Rattle.std.proofs.Common.{rules}
use Rattle.console_limits.specs.Quantities.{quantity_table}
use Rattle.console_limits.proofs.Tables.{row_lent}
use Rattle.console_limits.proofs.quantities.row_of.Goals as goal

pub returns : goal.returns
unfolding quantity_table
returns c = rw (c.unwrap_or.ensures, c.copied.ensures) (row_lent c.args.command c.get.result (search rules))
