-- `rl_rom_lane_row` meets its contract: 10 first, then the cell that the small box's question told.
use Rattle.rongalishu.proofs.Told.{one_short, one_told}
use Rattle.rongalishu.proofs.lanes.rl_rom_lane_row.Goals as goal

pub returns-then-cell-lt1 : goal.returns-then-cell-lt1
returns-then-cell-lt1 c = one_short _ _ _ c.if-cell-lt1.true

pub returns : goal.returns
returns c =
    rw c.give.ensures.answers (one_told _ _ _ _ c.rom_lane-told.result.cell _ c.if-cell-lt1.false c.rom_lane-told.ensures.0 c.rom_lane-told.ensures.1 c.give.ensures.leaves)
