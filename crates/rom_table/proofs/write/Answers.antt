-- `write` meets its contract: the places passed have their entries.
use mathlib.Core.Path.{refl, ◌∙◌}
use native.Mathlib.Omega.{arith}
use lib.ListN.{length, length-set}
use Rattle.plans.specs.Row.{written}
use Rattle.plans.proofs.Row.{written_next}
use Rattle.rom_table.specs.Table.{rom_entry}
use Rattle.rom_table.proofs.write.Goals as goal

pub loop-i-init : goal.loop-i-init
unfolding written
loop-i-init c = (refl, refl)

pub loop-i-preserved : goal.loop-i-preserved
loop-i-preserved c =
    let l = c.loop-i in
    let number = c.cells-numbers.ensures.each l.i (omega arith) in (
      written_next rom_entry c.args.row.now l.row l.i _ l.invariant.0 number,
      length-set l.row l.i _ ∙ l.invariant.1,
    )
