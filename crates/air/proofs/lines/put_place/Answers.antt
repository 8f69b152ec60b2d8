-- `air::lines::put_place` meets its contract: its parts are written one behind the other.
use Rattle.text.proofs.Pages.{then}
use Rattle.air.specs.Lines.{place_text}
use Rattle.air.proofs.lines.put_place.Goals as goal

pub returns : goal.returns
unfolding place_text
returns c = then c.put_line.ensures c.put_number.ensures
