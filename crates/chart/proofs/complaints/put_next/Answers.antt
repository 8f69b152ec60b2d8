-- `chart::complaints::put_next` meets its contract: its parts are written one behind the other.
use Rattle.text.specs.Texts.{text}
use Rattle.text.proofs.Pages.{then}
use Rattle.chart.specs.Complaints.{next_words}
use Rattle.chart.proofs.complaints.put_next.Goals as goal

pub returns : goal.returns
unfolding text next_words
returns c = then (then (then (then c.put.ensures c.put_number.ensures) c.put-2.ensures) c.put_clock.ensures) c.put-3.ensures
