-- `note_lanes` meets its contract. The invariant: the row has what the lanes passed show.
use mathlib.Core.Path.{refl, ap, ◌∙◌}
use native.Mathlib.Nat.{le_antisymm}
use Rattle.rom.specs.Plan.{noted_lanes}
use Rattle.rom.proofs.Noted.{lanes_more}
use Rattle.rom.proofs.plan.note_lanes.Goals as goal

pub loop-lane-init : goal.loop-lane-init
unfolding noted_lanes
loop-lane-init c = refl

pub loop-lane-preserved : goal.loop-lane-preserved
loop-lane-preserved c =
    let n = c.note in
    let x = c.cell_at in
    let l = c.loop-lane in
    let a = c.args in
    lanes_more a.table.now a.row.now l.row _ a.tick a.after l.lane _ l.invariant x.ensures n.ensures

pub returns : goal.returns
returns c =
    let l = c.loop-lane in
    l.invariant ∙ ap (noted_lanes _ _ _ _) (le_antisymm l.auto.lane-end c.loop-lane-test.false)
