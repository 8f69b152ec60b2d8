-- `notice::write` meets its contract: refused where the room is shorter than the notice, otherwise laid at its start.
use borrow.Author.Rules.{rules}
use Rattle.notice.proofs.Bytes.{written_short, written_whole}
use Rattle.notice.proofs.write.Goals as goal

pub returns-then-room-start : goal.returns-then-room-start
returns-then-room-start c =
    let sized = c in
    written_short _ _ (rw (sized.start.ensures, sized.kind_number-kind.ensures) at c.if-room-start.true)

pub returns : goal.returns
returns c =
    let rows = c in
    let tested = rows in
    let sized = tested in
    let kind = sized in
    rw (rows.put_rows.ensures, rows.values.ensures, kind.kind_number-kind.ensures)
    (written_whole _ _ (rw (sized.start.ensures, kind.kind_number-kind.ensures) at tested.if-room-start.false))
