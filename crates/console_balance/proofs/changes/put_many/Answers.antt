-- `console_balance::changes::put_many` meets its contract: its parts are written one behind the other.
use Rattle.text.specs.Texts.{text}
use Rattle.text.proofs.Pages.{then}
use Rattle.console_balance.specs.Balance.{many_text}
use Rattle.console_balance.proofs.changes.put_many.Goals as goal

pub returns : goal.returns
unfolding many_text text
returns c = then c.put.ensures c.put_number.ensures
