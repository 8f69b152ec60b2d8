-- `console_balance::put_told` meets its contract: where the ids are ids, the list over the rates of the line, with a place for
-- each title; else 1.
use Rattle.console_balance.specs.Balance.{pairs_ok, balance_told}
use Rattle.console_balance.proofs.put_told.Goals as goal

pub returns-then-ids_ok : goal.returns-then-ids_ok
unfolding balance_told pairs_ok
returns-then-ids_ok c =
    rw (← c.pairs_of-pairs.ensures.0, ← c.ids_ok.ensures, c.if-ids_ok.true, ← c.rates_by-row.ensures) c.put_listed.ensures

pub returns-else-ids_ok : goal.returns-else-ids_ok
unfolding balance_told pairs_ok
returns-else-ids_ok c =
    rw (← c.pairs_of-pairs.ensures.0, ← c.ids_ok.ensures, c.if-ids_ok.false) c.put_refusal.ensures
