-- `console_acts::acts::follow` meets its contract: a fresh agent, a notice, or an event.
use Rattle.console_acts.proofs.Following.{follows_fresh, follows_notice, follows_event}
use Rattle.console_acts.proofs.acts.follow.Goals as goal

pub returns-then-command-eq-FRESH : goal.returns-then-command-eq-FRESH
returns-then-command-eq-FRESH c = let x = c.args in
    follows_fresh x.agent x.line x.s.now _ _ c.if-command-eq-FRESH.true c.fresh_agent.ensures

pub returns-then-command-eq-NOTICE : goal.returns-then-command-eq-NOTICE
returns-then-command-eq-NOTICE c = let x = c.args in
    follows_notice x.agent x.line x.s.now _ _ c.if-command-eq-FRESH.false c.if-command-eq-NOTICE.true
    c.taken.ensures

pub returns : goal.returns
returns c = let x = c.args in
    follows_event x.agent x.line x.s.now _ _ c.if-command-eq-FRESH.false c.if-command-eq-NOTICE.false
    c.event.ensures
