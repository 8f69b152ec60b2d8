-- `frames::headings::put_heading` meets its contract: its parts are written one behind the other.
use Rattle.text.specs.Texts.{text}
use Rattle.text.proofs.Pages.{then}
use Rattle.frames.specs.Headings.{heading_text}
use Rattle.frames.proofs.headings.put_heading.Goals as goal

pub returns : goal.returns
unfolding text heading_text
returns c =
    then (then (then (then (then (then (then c.put_label.ensures c.put.ensures) c.put_number.ensures) c.put-2.ensures) c.put_clock.ensures)
    c.put-3.ensures) c.put_clock-2.ensures) c.put_label_end.ensures
