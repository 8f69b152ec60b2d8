-- `listing_io::lines::put_cut` meets its contract: its parts are written one behind the other.
use Rattle.text.specs.Texts.{text}
use Rattle.text.proofs.Pages.{then}
use Rattle.listing_io.specs.Lines.{last_line}
use Rattle.listing_io.proofs.lines.put_cut.Goals as goal

pub returns : goal.returns
unfolding last_line text
returns c = then (then c.put.ensures c.put_ended.ensures) c.put_ended-2.ensures
