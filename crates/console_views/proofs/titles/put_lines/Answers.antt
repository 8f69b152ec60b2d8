-- `console_views::titles::put_lines` meets its contract: the lines of the titles stand behind that of the pool.
use Rattle.text.proofs.Pages.{then}
use Rattle.console_views.specs.Titles.{title_lines}
use Rattle.console_views.proofs.titles.put_lines.Goals as goal

pub returns : goal.returns
unfolding title_lines
returns c = then c.put_pool.ensures c.put_each.ensures
