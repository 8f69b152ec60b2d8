-- `headend_desk::act` meets its contract: the event's answer and, where it is accepted, its notice and sum.
use Rattle.headend_desk.proofs.Replying.{acts_agent, acts_text, acts_notice, acts_sum, no_notice, no_sum}
use Rattle.headend_desk.proofs.act.Goals as goal

pub returns-then-told-eq-DONE : goal.returns-then-told-eq-DONE
returns-then-told-eq-DONE c =
    let x = c.args in
    let is = c.event_in-e.ensures in
    let taken = c.take-taken.ensures in
    let done = c.if-told-eq-DONE.true in
    let made = c.notice_with.ensures in
    record {
      agent = acts_agent x.agent x.line x.s.now _ is _ _ taken;
      answered = acts_text x.agent x.line x.s.now _ is _ _ taken c.put_event.ensures;
      noticed = acts_notice x.agent x.line x.s.now _ is _ _ taken done _ made c.keep.ensures.noticed;
      summed = acts_sum x.agent x.line x.s.now _ is _ _ taken done _ made c.keep.ensures.summed;
    }

pub returns-else-told-eq-DONE : goal.returns-else-told-eq-DONE
returns-else-told-eq-DONE c =
    let x = c.args in
    let is = c.event_in-e.ensures in
    let taken = c.take-taken.ensures in
    let refused = c.if-told-eq-DONE.false in
    record {
      agent = acts_agent x.agent x.line x.s.now _ is _ _ taken;
      answered = acts_text x.agent x.line x.s.now _ is _ _ taken c.put_event.ensures;
      noticed = no_notice x.agent x.line x.s.now _ is _ _ taken refused;
      summed = no_sum x.agent x.line x.s.now _ is _ _ taken refused;
    }
