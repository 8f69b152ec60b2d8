-- `left_at` meets its contract.
use native.Mathlib.Omega.{arith}
use native.Mathlib.Nat.{mod-lt}
use Rattle.stretches.proofs.LowSteps.{width_pos, left_exactly}
use Rattle.stretches.proofs.low.left_at.Goals as goal

pub nonzero_rem-result : goal.nonzero_rem-result
nonzero_rem-result c = width_pos c.args.s c.requires

pub overflow_sub-result : goal.overflow_sub-result
overflow_sub-result c = omega (arith, mod-lt c.args.tick (width_pos c.args.s c.requires))

pub returns : goal.returns
returns c = left_exactly c.args.s c.requires c.args.tick
