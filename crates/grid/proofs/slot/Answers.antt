-- `grid::slot` meets its contract: it is the power of two that a slot is defined by.
-- Rests on what its callee ensures.
use Rattle.grid.specs.Ticks.{slot}
use Rattle.grid.proofs.slot.Goals as goal

pub returns : goal.returns
unfolding slot
returns c = c.pow2.ensures
