-- `console_boxes::calls::padded` meets its contract: the plan that the call left stands behind its answer.
use Prim.Native.Nat.{◌^◌}
use mathlib.Core.Path.{◌≡◌, sym, ◌∙◌}
use native.Mathlib.Omega.{arith}
use lib.ListN.{length}
use Rattle.rules.specs.Refusals.{done}
use Rattle.plans.proofs.padded.Refusals.{Accepted, accepted_only}
use Rattle.console_boxes.proofs.Answered.{padded_told, cells_fit}
use Rattle.console_boxes.proofs.calls.padded.Tie as tie
use Rattle.console_boxes.proofs.calls.padded.Lts as lts
use Rattle.console_boxes.proofs.calls.padded.Reads as reads
use Rattle.console_boxes.proofs.calls.padded.Goals as goal

-- what the call's numbers are where it is done
fits : (at-plan : lts.After-plan tie.the-claims reads.Pre reads.Post) → at-plan.plan-answer.result ≡ done →
    let x = at-plan.args in
    Accepted x.floor x.cap x.count x.arrival (length x.row.now)
fits at-plan z = accepted_only _ _ _ _ _ (sym at-plan.plan-answer.ensures.answer ∙ z)

pub cells_of-cells-requires : goal.cells_of-cells-requires
cells_of-cells-requires c = λ z. (fits c.before.before.before.before z).count.high

pub returns : goal.returns
returns c =
    let at-missed = c in
    let at-plan = at-missed in
    let x = at-plan.args in
    record {
      answered = at-plan.plan-answer.ensures.answer;
      told = padded_told x.floor x.cap x.count x.arrival _ _ _ x.row.now _ at-missed.missed-named.ensures
          c.cells_of-cells.ensures at-plan.plan-answer.ensures;
      room = cells_fit _ _ (2 ^ x.cap) _ c.cells_of-cells.ensures
          (λ z. omega (arith, (fits at-plan.before.before.before.before.before z).room, at-plan.plan-answer.auto));
    }
