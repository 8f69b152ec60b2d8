-- `rl_air_row` meets its contract: 10 first, then what the judgement of the air told.
use Rattle.rongalishu.proofs.Told.{air_short, air_told}
use Rattle.rongalishu.proofs.reports.rl_air_row.Goals as goal

pub returns-then-report-lt-AIR_PLACES : goal.returns-then-report-lt-AIR_PLACES
returns-then-report-lt-AIR_PLACES c = air_short _ _ _ _ _ _ c.if-report-lt-AIR_PLACES.true

pub returns : goal.returns
returns c =
    rw c.give.ensures.answers (air_told _ _ _ _ _ _ c.air-told.result _ _ c.if-report-lt-AIR_PLACES.false c.air-told.ensures.0 c.air-told.ensures.1 c.give.ensures.leaves)
