-- `box_charts::heading::put_heading` meets its contract: its parts are written one behind the other.
use Rattle.text.specs.Texts.{text}
use Rattle.box_charts.specs.Heading.{box_heading}
use Rattle.text.proofs.Pages.{then}
use Rattle.box_charts.proofs.heading.put_heading.Goals as goal

pub returns : goal.returns
unfolding text box_heading
returns c =
    then (then (then (then (then c.put_label.ensures c.put.ensures) c.put_number.ensures) c.put-2.ensures) c.put_clock.ensures)
    c.put_label_end.ensures
