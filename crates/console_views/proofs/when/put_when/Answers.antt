-- `console_views::when::put_when` meets its contract: the outlook's answer and time, and behind them the reason.
use Rattle.text.proofs.Pages.{then}
use Rattle.console_views.specs.When.{when_text}
use Rattle.console_views.proofs.when.put_when.Goals as goal

pub returns : goal.returns
unfolding when_text
returns c =
    rw (← c.when-moment.ensures.0, ← c.when-moment.ensures.1, ← c.by_event-named.ensures)
    (then c.put_value.ensures c.put_reason.ensures)
