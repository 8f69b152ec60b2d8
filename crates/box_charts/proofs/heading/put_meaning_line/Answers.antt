-- `box_charts::heading::put_meaning_line` meets its contract: its parts are written one behind the other.
use Rattle.text.specs.Texts.{text}
use Rattle.box_charts.specs.Heading.{meaning_line}
use Rattle.text.proofs.Pages.{then}
use Rattle.box_charts.proofs.heading.put_meaning_line.Goals as goal

pub returns : goal.returns
unfolding text meaning_line
returns c =
    then (then (then (then (then c.put_label.ensures c.put_number.ensures) c.put.ensures) c.put_number-2.ensures) c.put-2.ensures)
    c.put_label_end.ensures
