-- `rl_waits_row` meets its contract: 10 first, then what the report of waits told.
use Rattle.rongalishu.proofs.Told.{waits_short, waits_told}
use Rattle.rongalishu.proofs.reports.rl_waits_row.Goals as goal

pub returns-then-report-lt-WAITS_PLACES : goal.returns-then-report-lt-WAITS_PLACES
returns-then-report-lt-WAITS_PLACES c = waits_short _ _ _ _ _ c.if-report-lt-WAITS_PLACES.true

pub returns : goal.returns
returns c =
    rw c.give.ensures.answers (waits_told _ _ _ _ _ c.report_of-told.result _ c.if-report-lt-WAITS_PLACES.false c.report_of-told.ensures c.give.ensures.leaves)
