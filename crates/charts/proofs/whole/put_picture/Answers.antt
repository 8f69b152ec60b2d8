-- `charts::whole::put_picture` meets its contract: its parts are written one behind the other.
use Rattle.text.proofs.Pages.{then}
use Rattle.charts.specs.Charts.{chart_text}
use Rattle.charts.proofs.whole.put_picture.Goals as goal

pub returns : goal.returns
unfolding chart_text
returns c =
    rw (← c.requires.1, ← c.view_of-v.ensures) (then (then c.put_still.ensures c.put_marks.ensures) c.put_foot.ensures)
