-- `rl_planner_row` meets its contract: 10 first, then the list that the planner told.
use Rattle.rongalishu.proofs.Told.{planner_short, planner_told}
use Rattle.rongalishu.proofs.pools.rl_planner_row.Goals as goal

pub returns-then-moves-lt1 : goal.returns-then-moves-lt1
returns-then-moves-lt1 c = planner_short _ _ _ _ _ _ _ c.if-moves-lt1.true

pub returns : goal.returns
returns c =
    rw c.give.ensures.answers (planner_told _ _ _ _ _ _ _ _ c.planner-told.result.many _ _ _ _ c.if-moves-lt1.false c.planner-told.ensures c.give.ensures.leaves)
