-- `box_charts::axes::put_quarter_line` meets its contract: its parts are written one behind the other.
use Rattle.text.specs.Texts.{text}
use Rattle.box_charts.specs.Axes.{quarter_line}
use Rattle.text.proofs.Pages.{then}
use Rattle.box_charts.proofs.axes.put_quarter_line.Goals as goal

pub returns : goal.returns
unfolding text quarter_line
returns c =
    rw (← c.x_of-x.ensures.0) (then (then (then (then (then (then (then c.put_path.ensures c.put_point.ensures) c.put_step.ensures)
    c.put_path_end.ensures) c.put_label.ensures) c.put.ensures) c.put_number.ensures) c.put_label_end.ensures)
