-- `figures::segments::found_in` meets its contract, by whether the cell is on the air.
use Rattle.figures.proofs.Found.{found, not_found}
use Rattle.figures.proofs.segments.found_in.Goals as goal

pub returns-then-in_g : goal.returns-then-in_g
returns-then-in_g c =
    let asked = c in
    found _ _ _ _ _ _ asked.channel_cell-cell.ensures.is asked.in_g.ensures _ c.if-in_g.true c.segment_of.ensures

pub returns : goal.returns
returns c =
    let asked = c in
    not_found _ _ _ _ _ _ asked.channel_cell-cell.ensures.is asked.in_g.ensures c.if-in_g.false
