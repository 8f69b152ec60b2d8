-- `console_commands::commands::verb` meets its contract: of the rows passed, from the last on, the first that the word names.
use Rattle.console_commands.proofs.Rows.{sought_none, sought_back, sought_all}
use Rattle.console_commands.proofs.commands.verb.Goals as goal

pub loop-command-init : goal.loop-command-init
loop-command-init c = sought_none _

pub loop-command-preserved : goal.loop-command-preserved
loop-command-preserved c =
    let at-loop = c.loop-command in
    sought_back _ _ _ _ c.loop-command-test.true at-loop.auto.command at-loop.invariant c.named-found.ensures

pub returns : goal.returns
returns c = sought_all _ _ _ c.loop-command-test.false c.loop-command.invariant
