-- `console_reasons::events::put_room` meets its contract: its parts are written one behind the other.
use Rattle.text.specs.Texts.{text}
use Rattle.console_reasons.specs.Events.{room_text}
use Rattle.text.proofs.Pages.{then}
use Rattle.console_reasons.proofs.events.put_room.Goals as goal

pub returns : goal.returns
unfolding room_text text
returns c = rw (← c.free_lanes-free.ensures) (then (then (then c.put.ensures c.put_number.ensures) c.put-2.ensures) c.put_room_words.ensures)
