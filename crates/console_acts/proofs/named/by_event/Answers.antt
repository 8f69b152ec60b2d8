-- `console_acts::named::by_event` meets its contract: an opening has its own numbers, any other event its title's.
use Rattle.console_acts.proofs.named.by_event.Goals as goal

pub returns-in-Opens : goal.returns-in-Opens
returns-in-Opens c = rw c.in-Opens.is c.missed.ensures

pub returns-in-Changes : goal.returns-in-Changes
returns-in-Changes c = rw c.in-Changes.is c.by_title.ensures

pub returns-in-Closes : goal.returns-in-Closes
returns-in-Closes c = rw c.in-Closes.is c.by_title-in-Closes.ensures

pub returns-in-Doors : goal.returns-in-Doors
returns-in-Doors c = rw c.in-Doors.is c.by_title-in-Doors.ensures
