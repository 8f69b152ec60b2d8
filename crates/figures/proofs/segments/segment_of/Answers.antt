-- `figures::segments::segment_of` meets its contract: a quotient is no larger than what is divided.
use native.Mathlib.Omega.{arith}
use native.Mathlib.Nat.{div-le_self}
use Rattle.figures.specs.Segments.{segment_of}
use Rattle.figures.proofs.segments.segment_of.Goals as goal

pub overflow_add-result : goal.overflow_add-result
overflow_add-result c = omega (arith, div-le_self c.args.cell c.slot.result)

pub returns : goal.returns
unfolding segment_of
returns c = rw c.slot.ensures.is
