-- `unheard_io::put_missed` meets its contract: its parts are written one behind the other.
use Rattle.text.specs.Texts.{text}
use Rattle.text.proofs.Pages.{then}
use Rattle.unheard_io.specs.Line.{missed_line}
use Rattle.unheard_io.proofs.put_missed.Goals as goal

pub returns : goal.returns
unfolding missed_line text
returns c =
    then
    (then (then (then c.put_line.ensures c.put_line-2.ensures) c.put_line-3.ensures) c.put_meaning.ensures)
    c.put.ensures
