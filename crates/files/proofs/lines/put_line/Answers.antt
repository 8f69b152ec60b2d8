-- `files::lines::put_line` meets its contract: its parts are written one behind the other.
use Rattle.text.proofs.Pages.{then}
use Rattle.files.specs.Lines.{line_of}
use Rattle.files.proofs.lines.put_line.Goals as goal

pub returns : goal.returns
unfolding line_of
returns c = then (then c.put.ensures c.put_number.ensures) c.put-2.ensures
