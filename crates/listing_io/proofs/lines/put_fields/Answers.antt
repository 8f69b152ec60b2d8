-- `listing_io::lines::put_fields` meets its contract: its parts are written one behind the other.
use Rattle.text.proofs.Pages.{then}
use Rattle.listing_io.specs.Lines.{listing_line}
use Rattle.listing_io.proofs.lines.put_fields.Goals as goal

pub returns : goal.returns
unfolding listing_line
returns c =
    then
    (then (then (then c.put_ended.ensures c.put_ended-2.ensures) c.put_ended-3.ensures) c.put_ended-4.ensures)
    c.put_ended-5.ensures
