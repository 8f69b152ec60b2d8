-- `console_balance::put_listed` meets its contract: the planner's list as lines, or its refusal.
use Rattle.console_balance.proofs.Listed.{has_places, list_told, list_refused}
use Rattle.console_balance.proofs.put_listed.Goals as goal

pub put_changes-requires : goal.put_changes-requires
put_changes-requires c =
    let x = c.args in
    has_places x.s x.time x.rates.now x.ids.now x.times.now x.counts.now _ _ _ _ _ c.planner-listed.ensures

pub returns-then-answer-eq-DONE : goal.returns-then-answer-eq-DONE
returns-then-answer-eq-DONE c =
    let x = c.args in
    list_told x.s x.time x.rates.now x.ids.now x.times.now x.counts.now _ _ _ _ _ c.planner-listed.ensures
    c.if-answer-eq-DONE.true c.put_changes.ensures

pub returns-else-answer-eq-DONE : goal.returns-else-answer-eq-DONE
returns-else-answer-eq-DONE c =
    let x = c.args in
    list_refused x.s x.time x.rates.now x.ids.now x.times.now x.counts.now _ _ _ _ _ c.planner-listed.ensures
    c.if-answer-eq-DONE.false c.put_refusal.ensures
