-- `salvage_lines::put_two` meets its contract: its parts are written one behind the other.
use Rattle.text.proofs.Pages.{then}
use Rattle.salvage_lines.specs.Lines.{two_numbers}
use Rattle.salvage_lines.proofs.put_two.Goals as goal

pub returns : goal.returns
unfolding two_numbers
returns c =
    then (then (then (then c.put.ensures c.put_number.ensures) c.put-2.ensures) c.put_number-2.ensures) c.put-3.ensures
