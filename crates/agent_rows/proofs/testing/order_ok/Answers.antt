-- `order_ok` meets its contract: each way out decides the tests up to it.
use borrow.Author.Rules.{rules}
use Rattle.agent_rows.specs.inner.Tested.{ordered_numbers}
use Rattle.agent_rows.proofs.testing.order_ok.Goals as goal

pub returns-then-within : goal.returns-then-within
unfolding ordered_numbers
returns-then-within c = search rules

pub returns-else-within : goal.returns-else-within
unfolding ordered_numbers
returns-else-within c = search rules
