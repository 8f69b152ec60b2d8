-- `marks::lives::put_frame` meets its contract: its parts are written one behind the other.
use Rattle.text.specs.Texts.{text}
use Rattle.text.proofs.Pages.{then}
use Rattle.strips.specs.Lanes.{lane_top}
use Rattle.marks.specs.Marks.{frame_text}
use Rattle.marks.proofs.lives.put_frame.Goals as goal

pub returns : goal.returns
unfolding text frame_text lane_top
returns c =
    then (then (then (then (then (then c.put_path.ensures c.put_point.ensures) c.put_step.ensures) c.put_step-2.ensures)
    c.put_step-3.ensures) c.put_step-4.ensures) c.put_path_end.ensures
