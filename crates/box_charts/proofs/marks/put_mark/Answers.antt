-- `box_charts::marks::put_mark` meets its contract: its parts are written one behind the other.
use Rattle.text.specs.Texts.{text}
use Rattle.box_charts.specs.Marks.{mark_text}
use Rattle.text.proofs.Pages.{then}
use Rattle.box_charts.proofs.marks.put_mark.Goals as goal

pub returns : goal.returns
unfolding text mark_text
returns c = rw (← c.mark_area-area.ensures) (then (then c.put_rect.ensures c.put_taken_line.ensures) c.put_rect_end.ensures)
