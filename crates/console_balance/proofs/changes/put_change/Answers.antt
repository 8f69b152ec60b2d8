-- `console_balance::changes::put_change` meets its contract: a newline, the word and three numbers, one behind the other.
use Rattle.text.specs.Texts.{text}
use Rattle.text.proofs.Pages.{then}
use Rattle.console_balance.specs.Balance.{change_text, change_line}
use Rattle.console_balance.proofs.changes.put_change.Goals as goal

pub returns : goal.returns
unfolding change_line change_text text
returns c = then (then (then c.put.ensures c.put_entry.ensures) c.put_entry-2.ensures) c.put_entry-3.ensures
