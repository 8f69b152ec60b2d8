-- `put_body` meets its contract: number, kind, length and payload, one behind the other.
use Rattle.journal_records.proofs.Laid.{body_laid}
use Rattle.journal_records.proofs.records.put_body.Goals as goal

pub returns : goal.returns
returns c =
    let payload = c in
    let length = payload in
    let kind = length in
    let number = kind in
    let a = number.args in
    rw (payload.lay.ensures, length.put-3.ensures, kind.put-2.ensures, number.put.ensures)
    (body_laid a.room.now a.at a.number a.kind a.payload.now)
