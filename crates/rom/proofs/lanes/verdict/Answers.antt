-- `verdict` meets its contract: each way out decides the table's length. Rests on the laws of the two ways.
use mathlib.Core.Path.{◌∙◌}
use Rattle.rom.proofs.Answered.{table_asked, table_refused}
use Rattle.rom.proofs.lanes.verdict.Goals as goal

pub returns-then-table-ne-ENTRIES : goal.returns-then-table-ne-ENTRIES
returns-then-table-ne-ENTRIES c = table_refused _ _ _ _ _ c.if-table-ne-ENTRIES.true

pub returns : goal.returns
returns c = c.rom_verdict.ensures ∙ table_asked _ _ _ _ _ c.if-table-ne-ENTRIES.false
