-- `console_boxes::calls::small` meets its contract: the plan that the small box left stands behind its answer.
use Prim.Native.Nat.{◌^◌, ◌≤◌}
use mathlib.Core.Path.{◌≡◌, sym, ◌∙◌}
use native.Mathlib.Omega.{arith}
use lib.ListN.{length}
use Rattle.rules.specs.Refusals.{done}
use Rattle.rom.specs.Plan.{RomPlanned}
use Rattle.rom.proofs.Planned.{RomAccepted, rom_accepted, table_plan}
use Rattle.console_boxes.proofs.Answered.{small_told, cells_fit}
use Rattle.console_boxes.proofs.calls.small.Tie as tie
use Rattle.console_boxes.proofs.calls.small.Lts as lts
use Rattle.console_boxes.proofs.calls.small.Reads as reads
use Rattle.console_boxes.proofs.calls.small.Goals as goal

-- by a table that was filled it is the small box's plan
planned : (at-plan : lts.After-plan tie.the-claims reads.Pre reads.Post) →
    let x = at-plan.args in
    RomPlanned x.floor x.cap x.count x.arrival x.row.now at-plan.plan-answer.result at-plan.plan-answer.new.row
planned at-plan =
    let t = at-plan.table-table in
    table_plan t.result t.ensures _ _ _ _ _ _ _ at-plan.plan-answer.ensures

-- what the call's numbers are where it is done
fits : (at-plan : lts.After-plan tie.the-claims reads.Pre reads.Post) → at-plan.plan-answer.result ≡ done →
    let x = at-plan.args in
    RomAccepted x.floor x.cap x.count x.arrival (length x.row.now)
fits at-plan z = rom_accepted _ _ _ _ _ (sym (planned at-plan).answer ∙ z)

pub cells_of-cells-requires : goal.cells_of-cells-requires
cells_of-cells-requires c =
    λ z.
    let t = fits c.before.before.before.before z in
    omega (arith, t.cap, t.accepted.count.high)

pub returns : goal.returns
returns c =
    let at-missed = c in
    let at-plan = at-missed in
    let x = at-plan.args in
    record {
      answered = (planned at-plan.before.before.before.before.before).answer;
      told = small_told x.floor x.cap x.count x.arrival _ _ _ x.row.now _ at-missed.missed-named.ensures
          c.cells_of-cells.ensures (planned at-plan.before.before.before.before.before);
      room = cells_fit _ _ (2 ^ x.cap) _ c.cells_of-cells.ensures
          (λ z.
          let t = fits at-plan.before.before.before.before.before z in
          let room : 2 ^ x.cap ≤ length x.row.now = rw t.cap t.accepted.room in
          omega (arith, room, at-plan.plan-answer.auto));
    }
