-- `log_boxes::begin::in_limits` meets its contract: each way out decides the tests up to it.
use mathlib.Core.Path.{◌≡◌}
use mathlib.Core.Bool.{false}
use mathlib.Core.Logic.{⊎_elim}
use borrow.Author.Tests.{lt-leb, le-leb}
use Rattle.log_boxes.specs.Box.{box_limits}
use Rattle.log_boxes.proofs.begin.in_limits.Goals as goal

pub returns-then-title-le-ID_MAX : goal.returns-then-title-le-ID_MAX
unfolding box_limits
returns-then-title-le-ID_MAX c =
    let all = c.if-title-le-ID_MAX.true in
    simp (← c.within.ensures, all.0, le-leb _ _ all.1)

pub returns-else-title-le-ID_MAX : goal.returns-else-title-le-ID_MAX
unfolding box_limits
returns-else-title-le-ID_MAX c =
    let x = c.args in
    ⊎_elim (λ a. simp (← c.within.ensures, a.0, lt-leb x.title 15 a.1) (cc)) (λ (a : c.within.result ≡ false). simp (← c.within.ensures, a) (cc))
    c.if-title-le-ID_MAX.either
