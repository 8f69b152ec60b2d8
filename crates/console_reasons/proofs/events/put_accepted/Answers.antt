-- `console_reasons::events::put_accepted` meets its contract: a change's own, and nothing of another event.
use Rattle.text.proofs.Pages.{nothing}
use Rattle.console_reasons.proofs.events.put_accepted.Goals as goal

pub returns-in-Opens : goal.returns-in-Opens
returns-in-Opens c = rw c.in-Opens.is nothing

pub returns-in-Changes : goal.returns-in-Changes
returns-in-Changes c = rw c.in-Changes.is c.put_later.ensures

pub returns-in-Closes : goal.returns-in-Closes
returns-in-Closes c = rw c.in-Closes.is nothing

pub returns-in-Doors : goal.returns-in-Doors
returns-in-Doors c = rw c.in-Doors.is nothing
