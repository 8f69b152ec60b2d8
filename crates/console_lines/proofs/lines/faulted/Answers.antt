-- `console_lines::lines::faulted` meets its contract: field by field the definition.
use mathlib.Core.Path.{refl}
use Rattle.console_lines.specs.Lines.{with_fault}
use Rattle.console_lines.proofs.lines.faulted.Goals as goal

pub returns : goal.returns
unfolding with_fault
returns c = refl
