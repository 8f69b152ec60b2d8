-- `drawing::pieces::put_field` meets its contract: its parts are written one behind the other.
use Rattle.drawing.specs.Pieces.{field_text}
use Rattle.text.proofs.Pages.{then}
use Rattle.drawing.proofs.pieces.put_field.Goals as goal

pub returns : goal.returns
unfolding field_text
returns c = then c.put.ensures c.put_tenths.ensures
