-- `charts::whole::put_still` meets its contract: its parts are written one behind the other.
use Rattle.text.proofs.Pages.{then}
use Rattle.charts.specs.Charts.{still_text}
use Rattle.charts.proofs.whole.put_still.Goals as goal

pub returns : goal.returns
unfolding still_text
returns c =
    rw (← c.first_drawn.ensures)
    (then (then (then (then (then c.put_head.ensures c.put_heading.ensures) c.put_legend.ensures) c.put_bands.ensures) c.put_times.ensures)
    c.put_pool.ensures)
