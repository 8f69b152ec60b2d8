-- `strips::lanes::put_told` meets its contract: its parts are written one behind the other.
use Rattle.text.specs.Texts.{text}
use Rattle.text.proofs.Pages.{then}
use Rattle.strips.specs.Lanes.{hover_text, doing_text}
use Rattle.strips.proofs.lanes.put_told.Goals as goal

pub returns-in-Some : goal.returns-in-Some
unfolding text hover_text doing_text
returns-in-Some c =
    rw c.in-Some.is
    (then (then (then (then (then (then c.put.ensures c.put_number.ensures) c.put-2.ensures) c.put_clock.ensures) c.put-3.ensures) c.put_clock-2.ensures)
    (then (then c.put-in-Some.ensures c.put_number-in-Some.ensures) c.put-in-Some-2.ensures))

pub returns-in-None : goal.returns-in-None
unfolding text hover_text doing_text
returns-in-None c =
    rw c.in-None.is
    (then (then (then (then (then (then c.put.ensures c.put_number.ensures) c.put-2.ensures) c.put_clock.ensures) c.put-3.ensures) c.put_clock-2.ensures)
    c.put-in-None.ensures)
