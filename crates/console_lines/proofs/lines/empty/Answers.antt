-- `console_lines::lines::empty` meets its contract: field by field the definition.
use mathlib.Core.Path.{refl}
use Rattle.console_lines.specs.Lines.{blank}
use Rattle.console_lines.proofs.lines.empty.Goals as goal

pub returns : goal.returns
unfolding blank
returns c = refl
