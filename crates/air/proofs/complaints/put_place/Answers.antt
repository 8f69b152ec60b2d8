-- `air::complaints::put_place` meets its contract: its parts are written one behind the other.
use Rattle.text.specs.Texts.{text}
use Rattle.text.proofs.Pages.{then}
use Rattle.air.specs.Complaints.{stray_line}
use Rattle.air.proofs.complaints.put_place.Goals as goal

pub returns : goal.returns
unfolding stray_line text
returns c = rw (← c.line_of-line.ensures) (then c.put_line.ensures c.put_line-2.ensures)
