-- What the loop keeps: of the rows from the last on down to a command's, the first that the word names.
use mathlib.Core.Path.{◌≡◌}
use lib.ListN.{drop}
use Rattle.console_commands.specs.Letters.{lowered}
use Rattle.console_commands.specs.Commands.{command_table, seek}
use Rattle.console_commands.proofs.commands.verb.Given as goal

abbrev pub invariant-loop-command : goal.invariant-loop-command
invariant-loop-command l = l.found ≡ seek (lowered l.word) l.command (drop l.command command_table)
