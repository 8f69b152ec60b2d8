-- `grid::pow2` meets its contract: a small power of two fits, so the shift loses nothing.
-- Rests on the laws of bounds.
use Rattle.grid.proofs.Bounds.{small_power}
use Rattle.grid.proofs.pow2.Goals as goal

pub returns : goal.returns
returns c = small_power c.args.n c.requires
