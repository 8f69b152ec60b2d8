-- `box_charts::curve::put_curve` meets its contract: its parts are written one behind the other.
use Rattle.text.specs.Texts.{text}
use Rattle.box_charts.specs.Curve.{kept_curve}
use Rattle.text.proofs.Pages.{then}
use Rattle.box_charts.proofs.curve.put_curve.Goals as goal

pub returns : goal.returns
unfolding text kept_curve
returns c = then (then (then (then c.put_path.ensures c.put_point.ensures) c.put_curve_steps.ensures) c.put_step.ensures) c.put_path_end.ensures
