-- `read` meets its contract: by what the bytes read as.
use Rattle.notice_rows.proofs.Answered.{read_short, read_whole, read_none}
use Rattle.notice_rows.proofs.read.Goals as goal

pub returns-then-fields-lt-ROWS : goal.returns-then-fields-lt-ROWS
returns-then-fields-lt-ROWS c = read_short _ _ c.if-fields-lt-ROWS.true

pub returns-in-Whole : goal.returns-in-Whole
returns-in-Whole c =
    let read = c in
    rw c.fill.ensures
    (read_whole _ _ _ read.if-fields-lt-ROWS.false read.read-reading.ensures _ c.in-Whole.is)

pub returns-in-Malformed : goal.returns-in-Malformed
returns-in-Malformed c = read_none _ _ _ c.if-fields-lt-ROWS.false c.read-reading.ensures c.in-Malformed.is
