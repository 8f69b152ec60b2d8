-- `row_for` meets its contract: the flat call over one place fills the record in, or leaves it.
use Rattle.status_records.proofs.Rows.{one_row}
use Rattle.status_records.proofs.row_for.Goals as goal

pub returns : goal.returns
returns c =
    let start = c in
    let a = start.args in
    let flat = c.status in
    one_row a.s a.time a.r flat.result
    flat.new.counts flat.new.held flat.new.marks
    flat.ensures.value flat.ensures.counts_after flat.ensures.held_after flat.ensures.marks_after
