-- `returned` meets its contract: three calls in turn.
use Prim.Native.Nat.{◌-◌}
use native.Mathlib.Omega.{arith}
use native.Mathlib.Nat.{mul-le-mul}
use Rattle.figures.specs.Times.{two_hours}
use Rattle.figures.specs.Holding.{returned_at}
use Rattle.figures.proofs.Sent.{in_turn}
use Rattle.figures.proofs.holding.returned.Goals as goal

pub overflow_mul-drop : goal.overflow_mul-drop
overflow_mul-drop c = omega (arith, mul-le-mul c.requires.drop_bound c.slot_ms.ensures.high)

pub returns : goal.returns
unfolding returned_at
returns c =
    let a = c.args in
    simp (← c.slot_ms.ensures.is)
    (in_turn a.count two_hours a.floor a.count a.count _ (a.count - 1) _ _ _
    c.fresh-started.ensures.1
    c.open-opened.ensures.1
    c.change-changed.ensures.1)
