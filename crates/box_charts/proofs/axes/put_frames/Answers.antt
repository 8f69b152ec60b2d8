-- `box_charts::axes::put_frames` meets its contract: its parts are written one behind the other.
use Rattle.text.specs.Texts.{text}
use Rattle.box_charts.specs.Axes.{frames_text}
use Rattle.text.proofs.Pages.{then}
use Rattle.box_charts.proofs.axes.put_frames.Goals as goal

pub returns : goal.returns
unfolding text frames_text
returns c =
    then (then (then (then (then (then (then (then (then (then c.put_path.ensures c.put_point.ensures) c.put_step.ensures)
    c.put_step-2.ensures) c.put_point-2.ensures) c.put_step-3.ensures) c.put_step-4.ensures) c.put_path_end.ensures) c.put_label.ensures)
    c.put.ensures) c.put_label_end.ensures
