-- `console_reasons::events::put_room_words` meets its contract: the first time with room where the clock has one.
use borrow.Author.Tests.{le-leb, lt-leb}
use Rattle.text.specs.Texts.{text}
use Rattle.console_reasons.specs.Events.{room_words}
use Rattle.text.proofs.Pages.{then}
use Rattle.console_reasons.proofs.events.put_room_words.Goals as goal

pub returns-then-room-le-EVENT_TIME_MAX : goal.returns-then-room-le-EVENT_TIME_MAX
unfolding room_words text
returns-then-room-le-EVENT_TIME_MAX c = rw (← c.room_from-room.ensures, le-leb _ _ c.if-room-le-EVENT_TIME_MAX.true) (then (then c.put.ensures c.put_number.ensures) c.put_accepted.ensures)

pub returns-else-room-le-EVENT_TIME_MAX : goal.returns-else-room-le-EVENT_TIME_MAX
unfolding room_words text
returns-else-room-le-EVENT_TIME_MAX c = rw (← c.room_from-room.ensures, lt-leb _ _ c.if-room-le-EVENT_TIME_MAX.false) c.put-else-room-le-EVENT_TIME_MAX.ensures
