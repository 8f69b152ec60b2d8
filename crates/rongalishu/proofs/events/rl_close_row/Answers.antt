-- `rl_close_row` meets its contract: it is the call of its event.
use Rattle.rongalishu.proofs.Entered.{as_event_lem}
use Rattle.rongalishu.proofs.events.rl_close_row.Goals as goal

pub returns : goal.returns
returns c =
    let e = as_event_lem _ _ _ _ _ c.event_at.ensures (c.event.ensures.value, c.event.ensures.row_after) in
    record { value = e.0; agent_after = e.1 }
