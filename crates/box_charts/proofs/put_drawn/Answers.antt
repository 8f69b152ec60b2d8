-- `box_charts::put_drawn` meets its contract: its parts are written one behind the other.
use Rattle.box_charts.specs.Picture.{drawn_text}
use Rattle.text.proofs.Pages.{then}
use Rattle.box_charts.proofs.put_drawn.Goals as goal

pub returns : goal.returns
unfolding drawn_text
returns c = rw (← c.peak_of-peak.ensures) (then (then (then c.put_plays.ensures c.put_marks.ensures) c.put_curve.ensures) c.put_peak.ensures)
