-- `title_times_ok` meets its contract: each way out decides the tests up to it.
use borrow.Author.Rules.{rules}
use Rattle.agent_rows.specs.inner.Tested.{times_ok}
use Rattle.agent_rows.proofs.testing.title_times_ok.Goals as goal

pub returns-then-part_ok-2 : goal.returns-then-part_ok-2
unfolding times_ok
returns-then-part_ok-2 c = search rules

pub returns-else-part_ok-2 : goal.returns-else-part_ok-2
unfolding times_ok
returns-else-part_ok-2 c = search rules
