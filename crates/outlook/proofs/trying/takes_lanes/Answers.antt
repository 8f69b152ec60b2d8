-- `takes_lanes` meets its contract: each act by its own rule.
use mathlib.Core.Path.{refl}
use Rattle.outlook.proofs.trying.takes_lanes.Goals as goal

pub returns-in-Changes : goal.returns-in-Changes
returns-in-Changes c = rw c.in-Changes.is refl
