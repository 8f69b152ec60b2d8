-- `console_boxes::small::put_small` meets its contract: its parts are written one behind the other.
use Rattle.text.specs.Texts.{text}
use Rattle.text.proofs.Pages.{then}
use Rattle.console_boxes.specs.Small.{small_text}
use Rattle.console_boxes.proofs.small.put_small.Goals as goal

pub returns : goal.returns
unfolding small_text text
returns c = then (then (then (then c.put.ensures c.put_number.ensures) c.put-2.ensures) c.put_number-2.ensures) c.put-3.ensures
