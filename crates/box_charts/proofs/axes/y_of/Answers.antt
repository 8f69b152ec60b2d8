-- `box_charts::axes::y_of` meets its contract: the bottom less a part of the height.
use native.Mathlib.Omega.{arith}
use Rattle.box_charts.specs.Axes.{y_of}
use Rattle.box_charts.proofs.axes.y_of.Goals as goal

pub returns : goal.returns
unfolding y_of
returns c = omega (arith, c.part.ensures.0, c.part.ensures.1)
