-- `console_pools::moves::put_rows` meets its contract: the planner's list stands behind its answer.
use Rattle.console_pools.proofs.Listed.{planner_told, planner_refused}
use Rattle.console_pools.proofs.moves.put_rows.Goals as goal

pub returns-then-answer-eq-DONE : goal.returns-then-answer-eq-DONE
returns-then-answer-eq-DONE c =
    let x = c.args in
    planner_told x.s x.time x.rates.now x.ids.now x.times.now x.counts.now _ _ _ _ _
    c.planner-listed.ensures x.asked.now c.put_done.ensures c.if-answer-eq-DONE.true c.put_beside.ensures

pub returns-else-answer-eq-DONE : goal.returns-else-answer-eq-DONE
returns-else-answer-eq-DONE c =
    let x = c.args in
    planner_refused x.s x.time x.rates.now x.ids.now x.times.now x.counts.now _ _ _ _ _
    c.planner-listed.ensures x.asked.now c.put_done.ensures c.if-answer-eq-DONE.false c.put_asked.ensures
