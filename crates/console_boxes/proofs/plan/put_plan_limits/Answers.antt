-- `console_boxes::plan::put_plan_limits` meets its contract: two numbers of a skip-forward title's plan, four of any other.
use borrow.Author.Tests.{eq-eqb, ne_eqb}
use Rattle.console_boxes.specs.Plan.{plan_numbers}
use Rattle.console_boxes.proofs.plan.put_plan_limits.Goals as goal

pub returns-then-command-eq-SKIP_PLAN : goal.returns-then-command-eq-SKIP_PLAN
unfolding plan_numbers
returns-then-command-eq-SKIP_PLAN c = rw (eq-eqb _ _ c.if-command-eq-SKIP_PLAN.true) c.put_limits.ensures

pub returns-else-command-eq-SKIP_PLAN : goal.returns-else-command-eq-SKIP_PLAN
unfolding plan_numbers
returns-else-command-eq-SKIP_PLAN c = rw (ne_eqb _ _ c.if-command-eq-SKIP_PLAN.false) c.put_limits-else-command-eq-SKIP_PLAN.ensures
