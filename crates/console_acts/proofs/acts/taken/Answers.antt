-- `console_acts::acts::taken` meets its contract: what the digits spell, as the first bytes of the room.
use native.Mathlib.Omega.{arith}
use lib.ListN.{length-take}
use Rattle.console_acts.proofs.acts.taken.Goals as goal

pub slice_bounds-take-end : goal.slice_bounds-take-end
slice_bounds-take-end c = rw length-take (omega (arith, c.spell-n.ensures.1))

pub returns : goal.returns
returns c = rw (← c.spell-n.ensures.0) c.take.ensures
