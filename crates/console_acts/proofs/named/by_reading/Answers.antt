-- `console_acts::named::by_reading` meets its contract: a notice's own event, and nothing of other bytes.
use mathlib.Core.Path.{ap, ◌∙◌}
use Rattle.story.specs.declared.Event.{Event}
use Rattle.console_acts.specs.Named.{missed_by}
use Rattle.console_acts.proofs.named.by_reading.Goals as goal

pub returns-in-Whole : goal.returns-in-Whole
returns-in-Whole c =
    let told = c in
    let a = told.args in
    rw told.in-Whole.is
    (c.by_event.ensures ∙ ap (λ (e : Event). missed_by a.answer a.s e) c.event_of.ensures)

pub returns-in-Malformed : goal.returns-in-Malformed
returns-in-Malformed c = rw c.in-Malformed.is
