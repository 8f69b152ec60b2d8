-- `box_charts::curve::put_peak` meets its contract: its parts are written one behind the other.
use Rattle.text.specs.Texts.{text}
use Rattle.box_charts.specs.Curve.{peak_text}
use Rattle.text.proofs.Pages.{then}
use Rattle.box_charts.proofs.curve.put_peak.Goals as goal

pub returns : goal.returns
unfolding text peak_text
returns c =
    then (then (then (then (then (then (then (then (then c.put_path.ensures c.put_point.ensures) c.put_step.ensures) c.put_path_end.ensures)
    c.put_label.ensures) c.put.ensures) c.put_number.ensures) c.put-2.ensures) c.put_number-2.ensures) c.put_label_end.ensures
