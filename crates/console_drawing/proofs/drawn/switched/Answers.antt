-- `console_drawing::drawn::switched` meets its contract: only a draw that is read turns the switch.
use Rattle.console_drawing.proofs.Behind.{turns, stays_other, stays_faulty}
use Rattle.console_drawing.proofs.drawn.switched.Goals as goal
use Rattle.console_drawing.proofs.drawn.switched.Goals.{else-line-eq-NO_FAULT-via-then-line-eq-NO_FAULT+else-line-eq-DRAW, else-line-eq-NO_FAULT-via-else-line-eq-NO_FAULT}

pub returns-then-line-eq-DRAW : goal.returns-then-line-eq-DRAW
returns-then-line-eq-DRAW c =
    let x = c.args in
    turns x.on x.s.now _ c.parse-line.ensures c.if-line-eq-NO_FAULT.true c.if-line-eq-DRAW.true

pub returns : goal.returns
returns c =
    let x = c.args in
    elim c.else-line-eq-NO_FAULT.branch [
      | else-line-eq-NO_FAULT-via-then-line-eq-NO_FAULT+else-line-eq-DRAW w ↦
          stays_other x.on x.s.now _ c.parse-line.ensures w.if-line-eq-NO_FAULT.true w.if-line-eq-DRAW.false
      | else-line-eq-NO_FAULT-via-else-line-eq-NO_FAULT w ↦
          stays_faulty x.on x.s.now _ c.parse-line.ensures w.if-line-eq-NO_FAULT.false
    ]
