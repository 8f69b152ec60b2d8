-- What the loop keeps: the places passed have their entries.
use mathlib.Core.Path.{◌≡◌}
use lib.ListN.{length}
use Rattle.plans.specs.Row.{written}
use Rattle.rom_table.specs.Table.{rom_entry}
use Rattle.rom_table.proofs.write.Given as goal

abbrev pub invariant-loop-i : goal.invariant-loop-i
invariant-loop-i l = (l.row ≡ written rom_entry l.initial.row l.i) × (length l.row ≡ length l.initial.row)
