-- What the loop keeps.
use mathlib.Core.Path.{◌≡◌}
use Prim.Native.Nat.{◌-◌}
use Rattle.rom_table.specs.Table.{rom_period}
use Rattle.rom.specs.Plan.{noted_ticks}
use Rattle.rom.proofs.plan.note_ticks.Given as goal

abbrev pub invariant-loop-after : goal.invariant-loop-after
invariant-loop-after l = l.row ≡ noted_ticks l.table l.initial.row l.count l.arrival (rom_period - l.after)
