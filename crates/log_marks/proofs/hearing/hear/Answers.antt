-- `log_marks::hearing::hear` meets its contract: by what the agent answers.
use Rattle.log_marks.proofs.Heard.{heard_accepted, heard_refused, heard_nobody}
use Rattle.log_marks.proofs.hearing.hear.Goals.{else-answer-eq-DONE-via-then-answer-eq-DONE+else-n-le-ID_MAX, else-answer-eq-DONE-via-else-answer-eq-DONE}
use Rattle.log_marks.proofs.hearing.hear.Goals as goal

pub returns-then-n-le-ID_MAX : goal.returns-then-n-le-ID_MAX
returns-then-n-le-ID_MAX c =
    let p =
    heard_accepted _ _ _ _ _ _ _ c.copy_from_slice.ensures.after c.heed_tested-answer.ensures c.if-answer-eq-DONE.true
    c.if-n-le-ID_MAX.true _ c.put_accepted.ensures.written c.put_accepted.ensures.kept_after in
    record { written = p.0; kept_after = p.1.0; takes = p.1.1 }

pub returns-else-answer-eq-DONE : goal.returns-else-answer-eq-DONE
returns-else-answer-eq-DONE c = elim c.else-answer-eq-DONE.branch [
  | else-answer-eq-DONE-via-then-answer-eq-DONE+else-n-le-ID_MAX w ↦
      let p = heard_nobody _ _ _ _ _ _ c.heed_tested-answer.ensures w.if-n-le-ID_MAX.false w.if-answer-eq-DONE.true _
      c.put_unheard.ensures.written c.put_unheard.ensures.kept_after in
      record { written = p.0; kept_after = p.1.0; takes = p.1.1 }
  | else-answer-eq-DONE-via-else-answer-eq-DONE w ↦
      let p = heard_refused _ _ _ _ _ _ c.heed_tested-answer.ensures w.if-answer-eq-DONE.false _
      c.put_unheard.ensures.written c.put_unheard.ensures.kept_after in
      record { written = p.0; kept_after = p.1.0; takes = p.1.1 }
]
