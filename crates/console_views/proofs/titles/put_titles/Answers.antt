-- `console_views::titles::put_titles` meets its contract: the reason stands behind the answer.
use mathlib.Core.Path.{◌∙◌}
use Rattle.text.proofs.Pages.{then}
use Rattle.console_views.specs.Titles.{titles_text}
use Rattle.console_views.proofs.titles.put_titles.Goals as goal

pub returns : goal.returns
unfolding titles_text
returns c =
    let says = c.told.ensures ∙ c.asked_verdict.ensures in
    rw (← says) (then c.put_told.ensures c.put_reason.ensures)
