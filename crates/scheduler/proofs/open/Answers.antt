-- `open` meets its contract: it is the call of its event.
use mathlib.Core.Path.{ap, ◌∙◌}
use Rattle.story.specs.declared.Act.{Act}
use Rattle.story.specs.Story.{event}
use Rattle.scheduler.proofs.Settled.{as_event_lem}
use Rattle.scheduler.proofs.open.Goals as goal

pub returns : goal.returns
returns c =
    let a = c.args in
    as_event_lem a.s c.call.result _ _
    (c.event_at.ensures ∙ ap (λ (x : Act). event a.id a.time x) c.opening.ensures) c.call.ensures
