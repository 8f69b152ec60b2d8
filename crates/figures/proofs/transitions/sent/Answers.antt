-- `figures::transitions::sent` meets its contract: three calls in turn, and what the lane answers.
use Rattle.figures.proofs.Sent.{Run, sends, past, silent}
use Rattle.figures.proofs.transitions.sent.Goals.{else-shown-eq-DONE-via-then-shown-eq-DONE+else-shown-lt16, else-shown-eq-DONE-via-else-shown-eq-DONE}
use Rattle.figures.proofs.transitions.sent.Goals as goal

pub returns-then-shown-lt16 : goal.returns-then-shown-lt16
returns-then-shown-lt16 c =
    sends _ _ _ _ _ _ (record { first = c.fresh-started.ensures.1; second = c.open-opened.ensures.1; third = c.change-changed.ensures.1 }) _ _
    c.lane-shown.ensures c.if-shown-eq-DONE.true c.if-shown-lt16.true

pub returns : goal.returns
returns c =
    let run : Run c.args.count c.fresh-started.result.state c.open-opened.result.state c.change-changed.result.state =
    record { first = c.fresh-started.ensures.1; second = c.open-opened.ensures.1; third = c.change-changed.ensures.1 } in
    elim c.else-shown-eq-DONE.branch [
      | else-shown-eq-DONE-via-then-shown-eq-DONE+else-shown-lt16 w ↦
          past _ _ _ _ _ _ run _ _ c.lane-shown.ensures w.if-shown-eq-DONE.true w.if-shown-lt16.false
      | else-shown-eq-DONE-via-else-shown-eq-DONE w ↦ silent _ _ _ _ _ _ run _ _ c.lane-shown.ensures w.if-shown-eq-DONE.false
    ]
