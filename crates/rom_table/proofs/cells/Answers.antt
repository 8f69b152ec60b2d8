-- `cells` meets its contract: one test, computed over the table that stands in the source, says of each number that it
-- is the grid's. Rests on the law that carries a test to each entry, and computes the added channel by low zeros.
use mathlib.Core.Path.{refl}
use lib.Count.{count_trailing_zeros}
use Rattle.grid.specs.Ticks.{slot, cell_of}
use Rattle.grid.specs.Channels.{floor_rem, shift, segment, channel_cell}
use Rattle.rom_table.specs.Table.{passes}
use Rattle.rom_table.proofs.Entries.{lane_cell_quick, is_entry, table_of}
use Rattle.rom_table.proofs.cells.Goals as goal

pub returns : goal.returns
unfolding passes is_entry lane_cell_quick channel_cell segment floor_rem cell_of slot shift count_trailing_zeros
returns c = table_of _ refl refl
