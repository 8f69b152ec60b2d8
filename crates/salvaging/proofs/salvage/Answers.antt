-- `salvaging::salvage` meets its contract: what was measured says whether both rooms are long enough.
use Rattle.salvaging.proofs.Rooms.{area_short, row_short, both_fit}
use borrow.Author.Rules.{rules}
use Rattle.salvaging.proofs.salvage.Goals as goal

pub returns-then-area-p : goal.returns-then-area-p
returns-then-area-p c =
    let short = c in
    area_short _ _ _ _ short.measure-p.ensures short.if-area-p.true _ c.refused.ensures

pub returns-then-row-p : goal.returns-then-row-p
returns-then-row-p c =
    let short = c in
    let measured = short in
    row_short _ _ _ _ measured.measure-p.ensures short.if-row-p.true _ c.refused-then-row-p.ensures

pub returns : goal.returns
returns c =
    let filled = c in
    let fits = filled in
    let room = fits in
    both_fit _ _ _ _ room.measure-p.ensures room.if-area-p.false fits.if-row-p.false _ _ _
    c.counted.ensures filled.fill.ensures
