-- `listing_io::lines::put_ended` meets its contract: the digits, and one byte behind them.
use Rattle.text.proofs.Pages.{then}
use Rattle.listing_io.specs.Lines.{number_then}
use Rattle.listing_io.proofs.lines.put_ended.Goals as goal

pub returns : goal.returns
unfolding number_then
returns c = then c.put_number.ensures c.put_byte.ensures
