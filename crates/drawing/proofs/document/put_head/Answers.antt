-- `drawing::document::put_head` meets its contract: its parts are written one behind the other.
use Rattle.text.specs.Texts.{text}
use Rattle.drawing.specs.Document.{svg_head}
use Rattle.text.proofs.Pages.{then}
use Rattle.drawing.proofs.document.put_head.Goals as goal

pub returns : goal.returns
unfolding text svg_head
returns c = then (then (then (then (then (then c.put_field.ensures c.put_field-2.ensures) c.put_field-3.ensures) c.put_field-4.ensures) c.put.ensures) c.put_sheet.ensures) c.put_hatches.ensures
