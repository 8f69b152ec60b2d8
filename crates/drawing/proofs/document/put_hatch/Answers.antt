-- `drawing::document::put_hatch` meets its contract: its parts are written one behind the other.
use Rattle.text.specs.Texts.{text}
use Rattle.drawing.specs.Document.{hatch_text}
use Rattle.text.proofs.Pages.{then}
use Rattle.drawing.proofs.document.put_hatch.Goals as goal

pub returns : goal.returns
unfolding text hatch_text
returns c = then (then (then (then c.put.ensures c.put_number.ensures) c.put-2.ensures) c.put_number-2.ensures) c.put-3.ensures
