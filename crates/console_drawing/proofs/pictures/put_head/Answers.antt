-- `console_drawing::pictures::put_head` meets its contract: its parts are written one behind the other.
use borrow.Author.Tests.{lt-ltb, le-ltb}
use Rattle.text.specs.Texts.{text}
use Rattle.text.proofs.Pages.{then}
use Rattle.console_drawing.specs.Pictures.{lane_head}
use Rattle.console_drawing.proofs.pictures.put_head.Goals as goal

pub returns-then-lane-lt-TWO_DIGITS : goal.returns-then-lane-lt-TWO_DIGITS
unfolding lane_head text
returns-then-lane-lt-TWO_DIGITS c =
    rw (lt-ltb _ _ c.if-lane-lt-TWO_DIGITS.true)
    (then (then c.put.ensures c.put_number.ensures) c.put-then-lane-lt-TWO_DIGITS.ensures)

pub returns-else-lane-lt-TWO_DIGITS : goal.returns-else-lane-lt-TWO_DIGITS
unfolding lane_head text
returns-else-lane-lt-TWO_DIGITS c =
    rw (le-ltb _ _ c.if-lane-lt-TWO_DIGITS.false)
    (then (then c.put.ensures c.put_number.ensures) c.put-else-lane-lt-TWO_DIGITS.ensures)
