-- `console_balance::balance_verdict` meets its contract: where the ids are ids, the planner's answer over the rates of the line, with
-- a place for each title; else 1.
use Rattle.console_balance.specs.Balance.{pairs_ok, balance_answer}
use Rattle.console_balance.proofs.balance_verdict.Goals as goal

pub returns-then-ids_ok : goal.returns-then-ids_ok
unfolding balance_answer pairs_ok
returns-then-ids_ok c =
    let at-planner = c in
    let rows-lent = at-planner in
    let at-rates-by = rows-lent in
    let at-if1 = at-rates-by in
    let at-ids-ok = at-if1 in
    let at-pairs-of = at-ids-ok in
    rw (← at-pairs-of.pairs_of-pairs.ensures.0, ← at-ids-ok.ids_ok.ensures, at-if1.if-ids_ok.true, ← at-rates-by.rates_by-row.ensures)
    at-planner.planner-listed.ensures.answer

pub returns : goal.returns
unfolding balance_answer pairs_ok
returns c =
    let at-ids-ok = c in
    let at-pairs-of = at-ids-ok in
    rw (← at-pairs-of.pairs_of-pairs.ensures.0, ← at-ids-ok.ids_ok.ensures, c.if-ids_ok.false)
