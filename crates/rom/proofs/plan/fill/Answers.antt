-- `fill` meets its contract: what the ticks of a period leave is each cell's first showing. Rests on the laws of noting.
use mathlib.Core.Path.{ap, ◌∙◌}
use Rattle.rom_table.specs.Table.{rom_period}
use Rattle.rom.specs.Plan.{noted_ticks}
use Rattle.rom.proofs.Noted.{ticks_seen}
use Rattle.rom.proofs.plan.fill.Goals as goal

pub returns : goal.returns
returns c =
    let n = c.note_ticks in
    let cleared = c.clear in
    let a = c.args in
    n.ensures
    ∙ ap (λ r. noted_ticks a.table.now r a.count a.arrival rom_period) cleared.ensures
    ∙ ticks_seen a.table.now a.count a.arrival a.row.now
