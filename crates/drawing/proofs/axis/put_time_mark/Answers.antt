-- `drawing::axis::put_time_mark` meets its contract: its parts are written one behind the other.
use Rattle.text.specs.Texts.{text}
use Rattle.drawing.specs.Axis.{time_mark_text}
use Rattle.text.proofs.Pages.{then}
use Rattle.drawing.proofs.axis.put_time_mark.Goals as goal

pub returns : goal.returns
unfolding text time_mark_text
returns c = then (then (then (then (then (then c.put_path.ensures c.put_point.ensures) c.put_step.ensures) c.put_path_end.ensures) c.put_label.ensures) c.put_clock.ensures) c.put_label_end.ensures
