-- `air::complaints::put_skip` meets its contract: a line for a skip-forward title.
use mathlib.Core.Path.{sym, ◌∙◌}
use Rattle.text.specs.Texts.{text}
use Rattle.text.proofs.Pages.{nothing}
use Rattle.air.specs.Complaints.{skip_line}
use Rattle.air.proofs.complaints.put_skip.Goals as goal

pub returns-then-is_skip_forward : goal.returns-then-is_skip_forward
unfolding skip_line text
returns-then-is_skip_forward c = rw (sym c.is_skip_forward.ensures ∙ c.if-is_skip_forward.true) c.put_line.ensures

pub returns-else-is_skip_forward : goal.returns-else-is_skip_forward
unfolding skip_line
returns-else-is_skip_forward c = rw (sym c.is_skip_forward.ensures ∙ c.if-is_skip_forward.false) nothing
