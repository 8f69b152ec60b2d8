-- `lay` meets its contract: the numbers take the place of as many.
use Rattle.agent_rows.proofs.Laid.{taken_over}
use Rattle.agent_rows.proofs.laying.lay.Goals as goal

pub returns : goal.returns
returns c = rw c.copy_from_slice.ensures.after (taken_over c.args.row.now c.args.at c.args.numbers.now)
