-- `drawing::pieces::put_label` meets its contract: its parts are written one behind the other.
use Rattle.text.specs.Texts.{text}
use Rattle.drawing.specs.Pieces.{label_text}
use Rattle.text.proofs.Pages.{then}
use Rattle.drawing.proofs.pieces.put_label.Goals as goal

pub returns : goal.returns
unfolding text label_text
returns c = then (then (then (then c.put.ensures c.put-2.ensures) c.put_field.ensures) c.put_field-2.ensures) c.put-3.ensures
