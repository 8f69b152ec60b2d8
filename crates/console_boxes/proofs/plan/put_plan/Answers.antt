-- `console_boxes::plan::put_plan` meets its contract: the plan of a row of as many places as the line asks for.
use Rattle.console_boxes.specs.Plan.{plan_in}
use Rattle.console_answers.proofs.Rows.{counted}
use Rattle.console_commands.specs.Commands.{places_most}
use Rattle.console_boxes.proofs.plan.put_plan.Goals as goal

pub slice_bounds-put_row-end : goal.slice_bounds-put_row-end
slice_bounds-put_row-end c =
    counted _ places_most c.blank_row-row.result c.blank_row-row.ensures.1
    c.places_of-n.ensures.1

pub returns : goal.returns
unfolding plan_in
returns c = rw (← c.places_of-n.ensures.0, ← c.blank_row-row.ensures.0) c.put_row.ensures
