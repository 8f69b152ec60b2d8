-- `curves::put_curve` meets its contract: step by step, each a millisecond at least.
use Rattle.curves.proofs.Steps.{begins, steps_on, arrives}
use borrow.Author.Rules.{rules}
use Rattle.curves.proofs.put_curve.Goals as goal

pub loop-time-init : goal.loop-time-init
loop-time-init c = begins _ _ _ _ _ _ c.requires.kept_len

pub loop-time-preserved : goal.loop-time-preserved
loop-time-preserved c =
    steps_on _ _ _ _ _ _ _ _ _ c.loop-time.invariant _ _ _ _ c.loop-time-test.true c.next_step-next.ensures c.lanes_held.ensures
    c.put_level.ensures.written c.put_level.ensures.kept_after (search rules)

pub returns : goal.returns
returns c =
    let p = arrives _ _ _ _ _ _ _ _ _ c.loop-time.invariant c.loop-time-test.false in
    record { written = p.0; kept_after = p.1 }
