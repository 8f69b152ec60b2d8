-- `drawing::pieces::put_point` meets its contract: its parts are written one behind the other.
use Rattle.text.specs.Texts.{text}
use Rattle.drawing.specs.Pieces.{point_text}
use Rattle.text.proofs.Pages.{then}
use Rattle.drawing.proofs.pieces.put_point.Goals as goal

pub returns : goal.returns
unfolding text point_text
returns c = then c.put_step.ensures c.put_field.ensures
