-- `small_ok` meets its contract: each way out decides the tests up to it.
use borrow.Author.Rules.{rules}
use Rattle.story.specs.Kept.{order_ok}
use Rattle.agent_rows.specs.inner.Tested.{small_ok, ordered_numbers}
use Rattle.agent_rows.proofs.testing.small_ok.Goals as goal

pub returns-then-not-numbers_ok : goal.returns-then-not-numbers_ok
unfolding small_ok order_ok ordered_numbers
returns-then-not-numbers_ok c = search rules

pub returns-then-mode-eq-ABSENT : goal.returns-then-mode-eq-ABSENT
unfolding small_ok order_ok ordered_numbers
returns-then-mode-eq-ABSENT c = search rules

pub returns-then-pool-ge-POOL_MIN : goal.returns-then-pool-ge-POOL_MIN
unfolding small_ok order_ok ordered_numbers
returns-then-pool-ge-POOL_MIN c = search rules

pub returns-else-pool-ge-POOL_MIN : goal.returns-else-pool-ge-POOL_MIN
unfolding small_ok order_ok ordered_numbers
returns-else-pool-ge-POOL_MIN c = search rules
