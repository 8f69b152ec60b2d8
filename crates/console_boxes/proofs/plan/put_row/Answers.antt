-- `console_boxes::plan::put_row` meets its contract: the cells that the call left stand behind its answer, and why it is refused behind them.
use Rattle.text.proofs.Pages.{then, told_as}
use Rattle.console_boxes.specs.Plan.{plan_said}
use Rattle.console_boxes.proofs.plan.put_row.Goals as goal

pub returns : goal.returns
unfolding plan_said
returns c =
    let filled = c.fill-told.ensures in
    rw (← filled.answered) (then (told_as filled.told (then c.put_done.ensures c.put_cells.ensures)) c.put_plan_reason.ensures)
