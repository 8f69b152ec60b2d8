-- `air::lines::put_admission` meets its contract: the tick, the cell and the line's end, one behind the other.
use Rattle.text.specs.Texts.{text}
use Rattle.text.proofs.Pages.{then}
use Rattle.air.specs.Lines.{admission_line}
use Rattle.air.proofs.lines.put_admission.Goals as goal

pub returns : goal.returns
unfolding admission_line text
returns c = then (then c.put_line.ensures c.put_result.ensures) c.put.ensures
