-- `strips::lanes::lane_top` meets its contract: a sum of small numbers.
use mathlib.Core.Path.{refl}
use native.Mathlib.Omega.{arith}
use Rattle.strips.specs.Lanes.{lane_top}
use Rattle.strips.proofs.lanes.lane_top.Goals as goal

pub returns : goal.returns
unfolding lane_top
returns c = (refl, omega arith)
