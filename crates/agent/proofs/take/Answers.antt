-- `agent::take` meets its contract: what the bytes read as, put to the agent.
use mathlib.Core.Path.{sym, ◌∙◌}
use Rattle.agent.proofs.Turns.{reads_as, malformed_stays}
use Rattle.agent.proofs.take.Goals as goal

pub returns-in-Whole : goal.returns-in-Whole
returns-in-Whole c = reads_as _ _ _ _ _ (sym c.read-read.ensures.is ∙ c.in-Whole.is) c.heed.ensures

pub returns-in-Malformed : goal.returns-in-Malformed
returns-in-Malformed c = reads_as _ _ _ _ _ (sym c.read-read.ensures.is ∙ c.in-Malformed.is) (malformed_stays _)
