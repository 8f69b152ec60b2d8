-- `till_at` meets its contract: of the first segment the ticks left decide, of another none.
use mathlib.Core.Path.{sym, ◌∙◌}
use Rattle.stretches.proofs.LowSteps.{till_first, till_later}
use Rattle.stretches.proofs.low.till_at.Goals as goal

pub returns-then-place-eq0 : goal.returns-then-place-eq0
returns-then-place-eq0 c =
    let s = c in
    let a = s.args in
    let p = c.place_at-place in
    till_first a.ends.now a.s.floor a.s.cap a.s.lane a.tick c.left_at.result c.till.result
    (sym p.ensures.is ∙ c.if-place-eq0.true) c.left_at.ensures.is c.till.ensures

pub returns : goal.returns
returns c =
    let s = c in
    let a = s.args in
    let p = c.place_at-place in
    till_later a.ends.now a.s.floor a.s.cap a.s.lane a.tick a.late (λ z. c.if-place-eq0.false (p.ensures.is ∙ z)) s.requires.till
