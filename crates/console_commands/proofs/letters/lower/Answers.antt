-- `console_commands::letters::lower` meets its contract: the library's small letter is that of the definition.
use Rattle.std.proofs.Common.{◌∙◌}
use Rattle.console_commands.proofs.Cases.{small_letter}
use Rattle.console_commands.proofs.letters.lower.Goals as goal

pub returns : goal.returns
returns c = c.to_ascii_lowercase.ensures.value ∙ small_letter c.args.b
