-- `console_balance::changes::put_changes` meets its contract: the lines of the changes stand behind how many they are.
use Rattle.text.proofs.Pages.{then}
use Rattle.console_balance.specs.Balance.{rows_text}
use Rattle.console_balance.proofs.changes.put_changes.Goals as goal

pub returns : goal.returns
unfolding rows_text
returns c = then c.put_many.ensures c.put_each.ensures
