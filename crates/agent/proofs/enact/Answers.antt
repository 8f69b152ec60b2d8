-- `enact` meets its contract: the call of the event that the notice carries.
use Rattle.scheduler.proofs.Settled.{as_event_lem}
use Rattle.agent.proofs.enact.Goals as goal

pub returns : goal.returns
returns c = as_event_lem c.args.s c.call.result _ _ c.event_of.ensures c.call.ensures
