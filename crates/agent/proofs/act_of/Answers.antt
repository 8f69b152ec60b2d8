-- `act_of` meets its contract: each kind is the act that its definition names.
use mathlib.Core.Path.{refl}
use Rattle.agent.proofs.act_of.Goals as goal

pub returns-in-Open : goal.returns-in-Open
returns-in-Open c = rw c.in-Open.is c.opening.ensures

pub returns-in-Change : goal.returns-in-Change
returns-in-Change c = rw c.in-Change.is refl

pub returns-in-Skip : goal.returns-in-Skip
returns-in-Skip c = rw c.in-Skip.is c.opening-in-Skip.ensures
