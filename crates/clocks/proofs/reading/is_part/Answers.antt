-- `clocks::reading::is_part` meets its contract: its tests are those of the definition.
use native.Mathlib.Omega.{arith}
use Rattle.std.proofs.lemmas.Grind.{common_steps}
use Rattle.clocks.specs.Clocks.{is_part}
use Rattle.clocks.proofs.reading.is_part.Goals as goal

pub returns-then-matches : goal.returns-then-matches
unfolding is_part
returns-then-matches c = grind (arith, common_steps)

pub returns-else-matches : goal.returns-else-matches
unfolding is_part
returns-else-matches c = grind (arith, common_steps)
