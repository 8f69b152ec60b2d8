-- `clocks::reading::is_tail` meets its contract: its tests are those of the definition.
use native.Mathlib.Omega.{arith}
use Rattle.std.proofs.lemmas.Grind.{common_steps}
use Rattle.clocks.specs.Clocks.{is_tail}
use Rattle.clocks.proofs.reading.is_tail.Goals as goal

pub returns-then-size-eq3 : goal.returns-then-size-eq3
unfolding is_tail
returns-then-size-eq3 c = grind (arith, common_steps)

pub returns-then-size-eq6 : goal.returns-then-size-eq6
unfolding is_tail
returns-then-size-eq6 c = grind (arith, common_steps)

pub returns-then-size-eq10 : goal.returns-then-size-eq10
unfolding is_tail
returns-then-size-eq10 c = grind (arith, common_steps)

pub returns-else-size-eq10 : goal.returns-else-size-eq10
unfolding is_tail
returns-else-size-eq10 c = grind (arith, common_steps)

pub returns-else-is_part-2 : goal.returns-else-is_part-2
unfolding is_tail
returns-else-is_part-2 c = grind (arith, common_steps)

pub returns-else-is_part : goal.returns-else-is_part
unfolding is_tail
returns-else-is_part c = grind (arith, common_steps)
