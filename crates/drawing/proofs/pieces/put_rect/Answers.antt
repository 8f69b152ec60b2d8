-- `drawing::pieces::put_rect` meets its contract: its parts are written one behind the other.
use Rattle.text.specs.Texts.{text}
use Rattle.text.proofs.Pages.{then}
use Rattle.drawing.specs.Pieces.{rect_text}
use Rattle.drawing.proofs.pieces.put_rect.Goals as goal

pub returns : goal.returns
unfolding rect_text text
returns c =
    then (then (then (then (then (then (then c.put.ensures c.put-2.ensures) c.put_number.ensures) c.put_field.ensures) c.put_field-2.ensures)
    c.put_field-3.ensures) c.put_field-4.ensures) c.put-3.ensures
