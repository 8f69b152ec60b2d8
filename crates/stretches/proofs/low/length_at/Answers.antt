-- `length_at` meets its contract: each way out is one of the definition's cases.
use mathlib.Core.Path.{◌∙◌}
use native.Mathlib.Omega.{arith}
use Rattle.stretches.proofs.LowSteps.{length_first}
use Rattle.stretches.proofs.low.length_at.Goals as goal

pub returns-then-place-eq0 : goal.returns-then-place-eq0
returns-then-place-eq0 c =
    let v = c in
    let a = v.args in
    let g = c.highest.ensures in
    rw v.left_at-left.ensures.is
    (length_first a.s.floor a.s.cap a.s.lane a.tick g.0 c.highest.result g.1 (omega (arith, g.2, v.left_at-left.ensures.is))
    (omega (arith, g.3, v.left_at-left.ensures.is)) (λ e. c.if-left-eq1.false (v.left_at-left.ensures.is ∙ e)))
