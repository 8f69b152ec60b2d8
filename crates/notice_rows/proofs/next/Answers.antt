-- `next` meets its contract: by what the log has at the place.
use Rattle.notice_rows.proofs.Answered.{step_short, step_at_lem, step_end, step_none}
use Rattle.notice_rows.proofs.next.Goals as goal

pub returns-then-fields-lt-ROWS : goal.returns-then-fields-lt-ROWS
returns-then-fields-lt-ROWS c = step_short _ _ _ c.if-fields-lt-ROWS.true

pub returns-in-At : goal.returns-in-At
returns-in-At c =
    let read = c in
    rw c.fill.ensures
    (step_at_lem _ _ _ _ read.if-fields-lt-ROWS.false read.read_at-found.ensures _ _ c.in-At.is)

pub returns-in-End : goal.returns-in-End
returns-in-End c = step_end _ _ _ _ c.if-fields-lt-ROWS.false c.read_at-found.ensures c.in-End.is

pub returns-in-Malformed : goal.returns-in-Malformed
returns-in-Malformed c = step_none _ _ _ _ c.if-fields-lt-ROWS.false c.read_at-found.ensures c.in-Malformed.is
