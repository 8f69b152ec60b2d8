-- `grid::from_below` meets its contract: a rest below m leaves room.
use native.Mathlib.Omega.{arith}
use Rattle.grid.proofs.from_below.Goals as goal

pub overflow_sub-result : goal.overflow_sub-result
overflow_sub-result c = omega arith

pub overflow_sub-result-2 : goal.overflow_sub-result-2
overflow_sub-result-2 c = omega arith

pub returns : goal.returns
returns c = omega arith
