-- `chart::complaints::put_never_opened` meets its contract: its parts are written one behind the other.
use Rattle.text.specs.Texts.{text}
use Rattle.text.proofs.Pages.{then}
use Rattle.chart.specs.Complaints.{never_opened_line}
use Rattle.chart.proofs.complaints.put_never_opened.Goals as goal

pub returns : goal.returns
unfolding text never_opened_line
returns c = then (then c.put.ensures c.put_number.ensures) c.put-2.ensures
