-- `clocks::reading::is_thousandths` meets its contract: its tests are those of the definition.
use native.Mathlib.Omega.{arith}
use Rattle.std.proofs.lemmas.Grind.{common_steps}
use Rattle.clocks.specs.Clocks.{is_thousandths}
use Rattle.clocks.proofs.reading.is_thousandths.Goals as goal

pub returns-then-is_digit-2 : goal.returns-then-is_digit-2
unfolding is_thousandths
returns-then-is_digit-2 c = grind (arith, common_steps)

pub returns-else-is_digit-2 : goal.returns-else-is_digit-2
unfolding is_thousandths
returns-else-is_digit-2 c = grind (arith, common_steps)
