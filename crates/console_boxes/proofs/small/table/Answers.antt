-- `console_boxes::small::table` meets its contract: a row of the table's length that was filled is the table.
use mathlib.Core.Path.{refl}
use Rattle.rom_table.proofs.Entries.{filled_table}
use Rattle.console_boxes.proofs.small.table.Goals as goal

pub returns : goal.returns
returns c = filled_table _ _ _ c.fill.ensures refl
