-- `console_balance::put_balance` meets its contract: the reason stands behind the answer.
use Rattle.text.proofs.Pages.{then}
use Rattle.console_balance.specs.Balance.{balance_text}
use Rattle.console_balance.proofs.put_balance.Goals as goal

pub returns : goal.returns
unfolding balance_text
returns c = rw (← c.balance_verdict-answer.ensures) (then c.put_told.ensures c.put_reason.ensures)
