-- `agent::fresh_agent` meets its contract: a fresh pool beside sequence 0.
use mathlib.Core.Path.{ap}
use Rattle.agent.proofs.Turns.{agent_of}
use Rattle.agent.proofs.fresh_agent.Goals as goal

pub returns : goal.returns
returns c = (c.fresh-started.ensures.0, ap (agent_of 0) c.fresh-started.ensures.1)
