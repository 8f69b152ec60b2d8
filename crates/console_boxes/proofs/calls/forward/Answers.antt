-- `console_boxes::calls::forward` meets its contract: the plan that the call left stands behind its answer.
use mathlib.Core.Path.{◌≡◌, sym, ◌∙◌}
use native.Mathlib.Omega.{arith}
use lib.ListN.{length}
use Rattle.rules.specs.Refusals.{done}
use Rattle.plans.specs.Forward.{blocks}
use Rattle.plans.proofs.forward.Refusals.{Accepted, accepted_only}
use Rattle.console_boxes.proofs.Answered.{forward_told, cells_fit}
use Rattle.console_boxes.proofs.calls.forward.Tie as tie
use Rattle.console_boxes.proofs.calls.forward.Lts as lts
use Rattle.console_boxes.proofs.calls.forward.Reads as reads
use Rattle.console_boxes.proofs.calls.forward.Goals as goal

-- what the call's numbers are where it is done
fits : (at-plan : lts.After-skip_plan tie.the-claims reads.Pre reads.Post) → at-plan.skip_plan-answer.result ≡ done →
    let x = at-plan.args in
    Accepted x.count x.arrival (length x.row.now)
fits at-plan z = accepted_only _ _ _ (sym at-plan.skip_plan-answer.ensures.answer ∙ z)

pub cells_of-cells-requires : goal.cells_of-cells-requires
cells_of-cells-requires c = λ z. omega (arith, (fits c.before.before.before.before z).within.high, c.one_less.ensures)

pub returns : goal.returns
returns c =
    let at-plan = c in
    let x = at-plan.args in
    let cells = rw c.one_less.ensures at c.cells_of-cells.ensures in
    record {
      answered = at-plan.skip_plan-answer.ensures.answer;
      told = forward_told x.count x.arrival _ _ x.row.now _ cells at-plan.skip_plan-answer.ensures;
      room = cells_fit _ _ (blocks x.count) _ cells (λ z. omega (arith, (fits at-plan.before.before.before.before.before z).room, at-plan.skip_plan-answer.auto));
    }
