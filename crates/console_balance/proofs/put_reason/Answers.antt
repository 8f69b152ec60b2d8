-- `console_balance::put_reason` meets its contract: the numbers of the line are its time and its pairs.
use native.Mathlib.Omega.{arith}
use lib.ListN.{length-take}
use Rattle.console_balance.specs.Balance.{balance_reason}
use Rattle.console_balance.proofs.put_reason.Goals as goal

pub slice_bounds-put_asked-end : goal.slice_bounds-put_asked-end
slice_bounds-put_asked-end c = rw length-take (omega (arith, c.pairs_of-pairs.ensures.1))

pub returns : goal.returns
unfolding balance_reason
returns c = rw (← c.pairs_of-pairs.ensures.0) c.put_asked.ensures
