-- `console_boxes::plan::put_plan_reason` meets its contract: the small box's own words, or which number is out of its limits.
use mathlib.Core.Path.{sym, ◌∙◌}
use Rattle.console_boxes.specs.Plan.{plan_reason}
use Rattle.console_boxes.proofs.plan.put_plan_reason.Goals as goal

pub returns-then-is_other_plan : goal.returns-then-is_other_plan
unfolding plan_reason
returns-then-is_other_plan c = rw (sym c.is_other_plan.ensures ∙ c.if-is_other_plan.true) c.put_small.ensures

pub returns-else-is_other_plan : goal.returns-else-is_other_plan
unfolding plan_reason
returns-else-is_other_plan c = rw (sym c.is_other_plan.ensures ∙ c.if-is_other_plan.false) c.put_plan_limits.ensures
