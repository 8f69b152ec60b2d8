-- `planner` meets its contract: the planner's own list, of the row's state.
use Rattle.row_questions.proofs.Asking.{planner_asked, planner_refused}
use Rattle.row_questions.proofs.planner.Goals as goal

pub returns-then-row-eq-ROW_LENGTH : goal.returns-then-row-eq-ROW_LENGTH
returns-then-row-eq-ROW_LENGTH c =
    let asked = c in
    let at = asked in
    planner_asked _ _ _ _ _ _ at.state_in.result _ _ _ _ _ at.if-row-eq-ROW_LENGTH.true at.state_in.ensures asked.planner.ensures

pub returns : goal.returns
returns c = planner_refused _ _ _ _ _ _ c.if-row-eq-ROW_LENGTH.false
