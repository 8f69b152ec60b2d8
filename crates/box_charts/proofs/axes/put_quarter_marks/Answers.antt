-- `box_charts::axes::put_quarter_marks` meets its contract: its parts are written one behind the other.
use Rattle.text.specs.Texts.{text}
use Rattle.box_charts.specs.Axes.{quarter_marks}
use Rattle.text.proofs.Pages.{then}
use Rattle.box_charts.proofs.axes.put_quarter_marks.Goals as goal

pub returns : goal.returns
unfolding text quarter_marks
returns c =
    rw (← c.y_of.ensures.0, ← c.x_of.ensures.0)
    (then (then (then c.put_label.ensures c.put_number.ensures) c.put_label_end.ensures) c.put_time_mark.ensures)
