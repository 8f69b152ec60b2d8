-- `drawing::document::put_sheet` meets its contract: its parts are written one behind the other.
use Rattle.text.specs.Texts.{text}
use Rattle.drawing.specs.Document.{sheet}
use Rattle.text.proofs.Pages.{then}
use Rattle.drawing.proofs.document.put_sheet.Goals as goal

pub returns : goal.returns
unfolding text sheet
returns c = then (then (then (then (then c.put.ensures c.put_sheet_of_lines.ensures) c.put_sheet_of_marks.ensures) c.put_sheet_of_titles.ensures) c.put_sheet_of_lanes.ensures) c.put-2.ensures
