-- `console_boxes::lanes::put_rom_lane` meets its contract: the small box's answer and cell, by a table that was filled, and why it is refused.
use mathlib.Core.Path.{◌∙◌}
use Rattle.text.proofs.Pages.{then}
use Rattle.rom.proofs.Answered.{table_lane}
use Rattle.console_boxes.proofs.Answered.{rom_lane_told}
use Rattle.console_boxes.proofs.lanes.put_rom_lane.Goals as goal

pub returns : goal.returns
returns c =
    let x = c.args in
    let told = c.lane-shown.ensures in
    let by = table_lane c.table-table.result x.s x.id x.lane x.time c.table-table.ensures in
    rom_lane_told x.s x.id x.lane x.time _ _ (told.0 ∙ by.0) (told.1 ∙ by.1) (then c.put_value.ensures c.put_rom_reason.ensures)
