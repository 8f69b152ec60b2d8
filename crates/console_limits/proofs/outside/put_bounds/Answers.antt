-- `console_limits::outside::put_bounds` meets its contract: its parts are written one behind the other.
use Rattle.text.specs.Texts.{text}
use Rattle.console_limits.specs.Outside.{bounds_text}
use Rattle.text.proofs.Pages.{then}
use Rattle.console_limits.proofs.outside.put_bounds.Goals as goal

pub returns : goal.returns
unfolding bounds_text text
returns c = rw (← c.bounds_of-limits.ensures) (then (then (then (then (then c.put.ensures c.put_name.ensures) c.put-2.ensures) c.put_number.ensures) c.put-3.ensures) c.put_number-2.ensures)
