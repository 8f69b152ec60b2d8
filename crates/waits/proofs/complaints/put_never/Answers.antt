-- `waits::complaints::put_never` meets its contract: a line for a title that the log never opens.
use mathlib.Core.Path.{sym, ◌∙◌}
use Rattle.text.specs.Texts.{text}
use Rattle.text.proofs.Pages.{nothing}
use Rattle.waits.specs.Complaints.{never_line}
use Rattle.waits.proofs.complaints.put_never.Goals as goal

pub returns-then-never_opened : goal.returns-then-never_opened
unfolding never_line text
returns-then-never_opened c = rw (sym c.never_opened.ensures ∙ c.if-never_opened.true) c.put_line.ensures

pub returns-else-never_opened : goal.returns-else-never_opened
unfolding never_line
returns-else-never_opened c = rw (sym c.never_opened.ensures ∙ c.if-never_opened.false) nothing
