-- `drawing::pieces::put_tenths` meets its contract: its parts are written one behind the other.
use Rattle.text.specs.Texts.{text}
use Rattle.drawing.specs.Pieces.{tenths_text}
use Rattle.text.proofs.Pages.{then}
use Rattle.drawing.proofs.pieces.put_tenths.Goals as goal

pub returns : goal.returns
unfolding text tenths_text
returns c = then (then c.put_number.ensures c.put.ensures) c.put_number-2.ensures
