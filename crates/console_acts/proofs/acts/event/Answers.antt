-- `console_acts::acts::event` meets its contract: the scheduler's next state beside the agent's own sequence.
use Rattle.scheduler.proofs.Settled.{as_event_lem}
use Rattle.console_acts.proofs.Following.{moves}
use Rattle.console_acts.proofs.acts.event.Goals as goal

pub returns : goal.returns
returns c =
    let called = c in
    let a = called.args in
    let told = as_event_lem a.agent.state called.call-outcome.result _ _ called.event_in.ensures called.call-outcome.ensures in
    (told.0, moves a.agent a.line _ told.1)
