-- `close` meets its contract: it is the call of its event.
use Rattle.scheduler.proofs.Settled.{as_event_lem}
use Rattle.scheduler.proofs.close.Goals as goal

pub returns : goal.returns
returns c = as_event_lem c.args.s c.call.result _ _ c.event_at.ensures c.call.ensures
