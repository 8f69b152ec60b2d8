-- `joined` meets its contract: the numbers of a title fit its rows.
use native.Mathlib.Omega.{arith}
use Rattle.sharers.proofs.Sharers.{length_high, floor_small, cap_high}
use Rattle.sharers.proofs.rows.joined.Goals as goal

pub overflow_cast-r : goal.overflow_cast-r
overflow_cast-r c = omega (arith, length_high c.args.t c.requires.1)

pub overflow_cast-r-2 : goal.overflow_cast-r-2
overflow_cast-r-2 c = omega (arith, floor_small c.args.t c.requires.1)

pub overflow_cast-r-3 : goal.overflow_cast-r-3
overflow_cast-r-3 c = omega (arith, cap_high c.args.t c.requires.1)
