-- `box_charts::curve::kept_y` meets its contract: the bottom less a part of the height.
use native.Mathlib.Omega.{arith}
use Rattle.box_charts.specs.Curve.{kept_y}
use Rattle.box_charts.proofs.curve.kept_y.Goals as goal

pub returns : goal.returns
unfolding kept_y
returns c = omega (arith, c.part.ensures.0, c.part.ensures.1)
