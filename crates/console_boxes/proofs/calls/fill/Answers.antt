-- `console_boxes::calls::fill` meets its contract: each test on the command is that of the definition.
use borrow.Author.Tests.{eq-eqb, ne_eqb}
use Rattle.console_boxes.specs.Plan.{plan_over, answer_over}
use Rattle.console_boxes.proofs.calls.fill.Goals as goal

pub returns-then-command-eq-SKIP_PLAN : goal.returns-then-command-eq-SKIP_PLAN
unfolding plan_over answer_over
returns-then-command-eq-SKIP_PLAN c =
    let at_forward = c in
    let at-if1 = at_forward in
    rw (eq-eqb _ _ at-if1.if-command-eq-SKIP_PLAN.true) at_forward.forward.ensures

pub returns-then-command-eq-ROM_PLAN : goal.returns-then-command-eq-ROM_PLAN
unfolding plan_over answer_over
returns-then-command-eq-ROM_PLAN c =
    let at_small = c in
    let at-if2 = at_small in
    rw (ne_eqb _ _ at-if2.if-command-eq-SKIP_PLAN.false, eq-eqb _ _ at-if2.if-command-eq-ROM_PLAN.true) at_small.small.ensures

pub returns : goal.returns
unfolding plan_over answer_over
returns c =
    let at-padded = c in
    let at-if2 = at-padded in
    rw (ne_eqb _ _ at-if2.if-command-eq-SKIP_PLAN.false, ne_eqb _ _ at-if2.if-command-eq-ROM_PLAN.false) at-padded.padded.ensures
