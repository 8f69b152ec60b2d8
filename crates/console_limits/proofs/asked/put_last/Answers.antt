-- `console_limits::asked::put_last` meets its contract: the words, and the time behind them.
use Rattle.text.specs.Texts.{text}
use Rattle.console_limits.specs.Asked.{last_text}
use Rattle.text.proofs.Pages.{then}
use Rattle.console_limits.proofs.asked.put_last.Goals as goal

pub returns : goal.returns
unfolding last_text text
returns c = then c.put.ensures c.put_number.ensures
