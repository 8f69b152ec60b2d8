-- `rl_salvage_row` meets its contract: 10 first, then what the salvage told.
use Rattle.rongalishu.proofs.Told.{salvage_short, salvage_told}
use Rattle.rongalishu.proofs.reports.rl_salvage_row.Goals as goal

pub returns-then-report-lt-SALVAGE_PLACES : goal.returns-then-report-lt-SALVAGE_PLACES
returns-then-report-lt-SALVAGE_PLACES c = salvage_short _ _ _ _ c.if-report-lt-SALVAGE_PLACES.true

pub returns : goal.returns
returns c =
    rw c.give.ensures.answers (salvage_told _ _ _ _ c.salvage-told.result _ _ _ c.if-report-lt-SALVAGE_PLACES.false c.salvage-told.ensures c.give.ensures.leaves)
