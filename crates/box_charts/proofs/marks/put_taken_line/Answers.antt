-- `box_charts::marks::put_taken_line` meets its contract: its parts are written one behind the other.
use Rattle.text.specs.Texts.{text}
use Rattle.box_charts.specs.Marks.{taken_line}
use Rattle.text.proofs.Pages.{then}
use Rattle.box_charts.proofs.marks.put_taken_line.Goals as goal

pub returns : goal.returns
unfolding text taken_line
returns c =
    then (then (then (then (then (then (then c.put.ensures c.put_number.ensures) c.put-2.ensures) c.put_number-2.ensures) c.put-3.ensures)
    c.put_number-3.ensures) c.put-4.ensures) c.put_number-4.ensures
