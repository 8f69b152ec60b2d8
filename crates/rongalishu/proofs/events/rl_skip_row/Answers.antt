-- `rl_skip_row` meets its contract: it is the call of its event.
use mathlib.Core.Path.{ap, ◌∙◌}
use Rattle.story.specs.Story.{event}
use Rattle.rongalishu.proofs.Entered.{as_event_lem}
use Rattle.rongalishu.proofs.events.rl_skip_row.Goals as goal

pub returns : goal.returns
returns c =
    let e = as_event_lem _ _ _ _ _ (c.event_at.ensures ∙ ap (event _ _) c.opening.ensures) (c.event.ensures.value, c.event.ensures.row_after) in
    record { value = e.0; agent_after = e.1 }
