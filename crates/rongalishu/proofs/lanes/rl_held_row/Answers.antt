-- `rl_held_row` meets its contract: 10 first, then the lanes held that were told.
use Rattle.rongalishu.proofs.Told.{one_short, one_told}
use Rattle.rongalishu.proofs.lanes.rl_held_row.Goals as goal

pub returns-then-lanes-lt1 : goal.returns-then-lanes-lt1
returns-then-lanes-lt1 c = one_short _ _ _ c.if-lanes-lt1.true

pub returns : goal.returns
returns c =
    rw c.give.ensures.answers (one_told _ _ _ _ c.held-told.result.lanes _ c.if-lanes-lt1.false c.held-told.ensures.0 c.held-told.ensures.1 c.give.ensures.leaves)
