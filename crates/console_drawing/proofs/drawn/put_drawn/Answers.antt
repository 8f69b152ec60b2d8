-- `console_drawing::drawn::put_drawn` meets its contract: nothing behind a line that cannot be read or says no event.
use mathlib.Core.Path.{sym, ap, ◌∙◌}
use Rattle.console_lines.specs.declared.lines.Line.{Line}
use Rattle.console_lines.proofs.Longest.{readable}
use Rattle.console_drawing.proofs.Behind.{draws_none, draws_event, draws_other}
use Rattle.console_drawing.proofs.drawn.put_drawn.Goals as goal
use Rattle.console_drawing.proofs.drawn.put_drawn.Goals.{else-line-eq-NO_FAULT-via-then-line-eq-NO_FAULT+else-says_event, else-line-eq-NO_FAULT-via-else-line-eq-NO_FAULT}

pub put_event-requires : goal.put_event-requires
put_event-requires c =
    readable c.args.s.now (sym (ap (λ (l : Line). l.fault) c.parse-line.ensures) ∙ c.if-line-eq-NO_FAULT.true)

pub returns-then-says_event : goal.returns-then-says_event
returns-then-says_event c =
    let x = c.args in
    draws_event x.agent x.s.now _ c.parse-line.ensures c.if-line-eq-NO_FAULT.true _ c.says_event.ensures
    c.if-says_event.true c.put_event.ensures

pub returns-else-line-eq-NO_FAULT : goal.returns-else-line-eq-NO_FAULT
returns-else-line-eq-NO_FAULT c =
    let x = c.args in
    elim c.else-line-eq-NO_FAULT.branch [
      | else-line-eq-NO_FAULT-via-then-line-eq-NO_FAULT+else-says_event w ↦
          draws_other x.agent x.s.now _ c.parse-line.ensures w.if-line-eq-NO_FAULT.true _ w.says_event.ensures w.if-says_event.false
      | else-line-eq-NO_FAULT-via-else-line-eq-NO_FAULT w ↦
          draws_none x.agent x.s.now _ c.parse-line.ensures w.if-line-eq-NO_FAULT.false
    ]
