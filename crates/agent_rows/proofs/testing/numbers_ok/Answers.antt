-- `numbers_ok` meets its contract: each way out decides the tests up to it.
use borrow.Author.Rules.{rules}
use Rattle.agent_rows.specs.inner.Tested.{small_numbers}
use Rattle.agent_rows.proofs.testing.numbers_ok.Goals as goal

pub returns-then-mark-le-HELD : goal.returns-then-mark-le-HELD
unfolding small_numbers
returns-then-mark-le-HELD c = search rules

pub returns-else-mark-le-HELD : goal.returns-else-mark-le-HELD
unfolding small_numbers
returns-else-mark-le-HELD c = search rules
