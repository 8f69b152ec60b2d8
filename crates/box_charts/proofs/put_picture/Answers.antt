-- `box_charts::put_picture` meets its contract: its parts are written one behind the other.
use Rattle.text.proofs.Pages.{then}
use Rattle.box_charts.specs.Picture.{box_drawing}
use Rattle.box_charts.proofs.put_picture.Goals as goal

pub returns : goal.returns
unfolding box_drawing
returns c = then (then c.put_frame.ensures c.put_drawn.ensures) c.put_foot.ensures
