-- `drawing::pieces::put_path` meets its contract: its parts are written one behind the other.
use Rattle.text.specs.Texts.{text}
use Rattle.drawing.specs.Pieces.{path_text}
use Rattle.text.proofs.Pages.{then}
use Rattle.drawing.proofs.pieces.put_path.Goals as goal

pub returns : goal.returns
unfolding text path_text
returns c = then (then c.put.ensures c.put-2.ensures) c.put-3.ensures
