-- `lanes_held` meets its contract: no id is left out.
use mathlib.Core.Path.{◌∙◌}
use Rattle.agent_rows.specs.Packed.{unpacked}
use Rattle.agent_rows.proofs.Lanes.{all_but_none}
use Rattle.agent_rows.proofs.holding.lanes_held.Goals as goal

pub returns : goal.returns
returns c = c.others_held.ensures.is ∙ all_but_none (unpacked c.args.row.now).state c.args.time
