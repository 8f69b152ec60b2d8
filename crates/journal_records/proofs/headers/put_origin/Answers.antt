-- `put_origin` meets its contract: each number behind the one before, and zeros.
use Rattle.journal_records.proofs.HeaderLaid.{origin_laid}
use Rattle.journal_records.proofs.headers.put_origin.Goals as goal

pub returns : goal.returns
returns c =
    let zeros = c in
    let least = zeros in
    let lead = least in
    let pool = lead in
    let zero = pool in
    let a = zero.args in
    rw (zeros.put-5.ensures, least.put-4.ensures, lead.put-3.ensures, pool.put-2.ensures, zero.put.ensures)
    (origin_laid a.room.now a.origin)
