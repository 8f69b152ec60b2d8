-- `console_commands::commands::entry` meets its contract: the code's rows are those of the definitions.
use Rattle.std.proofs.Common.{rules}
use Rattle.text.specs.Texts.{text}
use Rattle.console_commands.specs.Commands.{command_table}
use Rattle.console_commands.proofs.Rows.{lent_row}
use Rattle.console_commands.proofs.commands.entry.Goals as goal

pub returns : goal.returns
unfolding text command_table
returns c = rw (c.unwrap_or.ensures, c.copied.ensures) (lent_row c.args.command c.get.result (search rules))
