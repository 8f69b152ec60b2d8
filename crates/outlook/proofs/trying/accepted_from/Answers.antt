-- `accepted_from` meets its contract: up to the loop's time the event is refused, and each turn goes on to the next try.
use mathlib.Core.Path.{sym, ◌∙◌}
use native.Mathlib.Omega.{arith}
use Rattle.outlook.proofs.Tried.{tried_none, tried_early, tried_on, tried_over}
use Rattle.outlook.proofs.trying.accepted_from.Goals as goal

pub loop-s-init : goal.loop-s-init
loop-s-init c = tried_none c.args.s c.args.e

pub next_try-requires : goal.next_try-requires
next_try-requires c =
    let l = c in
    let a = l.args in
    tried_early a.s a.e l.loop-s.time (sym c.is_refused.ensures ∙ c.loop-s-test.true)

pub overflow_add-time : goal.overflow_add-time
overflow_add-time c =
    let l = c in
    let a = l.args in
    let early = tried_early a.s a.e l.loop-s.time (sym c.is_refused.ensures ∙ c.loop-s-test.true) in
    record { fits = omega (arith, early) }

pub loop-s-smaller : goal.loop-s-smaller
loop-s-smaller c =
    let l = c in
    let a = l.args in
    let early = tried_early a.s a.e l.loop-s.time (sym c.is_refused.ensures ∙ c.loop-s-test.true) in
    omega (arith, early, c.max-time.ensures)

pub loop-s-preserved : goal.loop-s-preserved
loop-s-preserved c =
    let l = c in
    let a = l.args in
    tried_on a.s a.e l.loop-s.time l.loop-s.invariant (sym c.is_refused.ensures ∙ c.loop-s-test.true)
    c.next_try.ensures c.max-time.ensures

pub returns : goal.returns
returns c =
    let l = c in
    let a = l.args in
    tried_over a.s a.e l.loop-s.time l.loop-s.invariant (sym c.is_refused.ensures ∙ c.loop-s-test.false)
