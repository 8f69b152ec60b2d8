-- `console_reasons::events::put_later` meets its contract: a time of acceptance that is not the first with room.
use borrow.Author.Tests.{eq-eqb, ne_eqb}
use Rattle.text.specs.Texts.{text}
use Rattle.text.proofs.Pages.{then}
use Rattle.console_reasons.specs.Events.{later_text}
use Rattle.console_reasons.proofs.events.put_later.Goals as goal

pub returns-then-w-room : goal.returns-then-w-room
unfolding later_text text
returns-then-w-room c = rw (
  ← c.when-w.ensures.0,
  ← c.when-w.ensures.1,
  ← c.room_from-room.ensures,
  eq-eqb _ _ c.if-w-eq-DONE.true,
  ne_eqb _ _ c.if-w-room.true,
) (then c.put.ensures c.put_number.ensures)
