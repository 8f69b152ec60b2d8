-- `note_ticks` meets its contract. The invariant: the row has what the ticks passed show.
use mathlib.Core.Path.{◌≡◌, refl, ap, ◌∙◌}
use Prim.Native.Nat.{◌+◌, ◌-◌}
use native.Mathlib.Omega.{arith}
use Rattle.rom_table.specs.Table.{rom_period}
use Rattle.rom.specs.Plan.{noted_ticks}
use Rattle.rom.proofs.Noted.{ticks_more}
use Rattle.rom.proofs.plan.note_ticks.Goals as goal

pub loop-after-init : goal.loop-after-init
unfolding noted_ticks
loop-after-init c = refl

pub loop-after-preserved : goal.loop-after-preserved
loop-after-preserved c =
    let l = c.loop-after in
    let a = c.args in
    let n = rom_period - l.after in
    let here : l.after - 1 ≡ rom_period - (n + 1) = omega arith in
    let more : rom_period - (l.after - 1) ≡ n + 1 = omega arith in
    rw more (ticks_more a.table.now a.row.now l.row _ a.count a.arrival n l.invariant (rw here at c.note_lanes.ensures))

pub returns : goal.returns
returns c =
    let done : rom_period - c.loop-after.after ≡ rom_period = omega arith in
    c.loop-after.invariant ∙ ap (noted_ticks _ _ _ _) done
