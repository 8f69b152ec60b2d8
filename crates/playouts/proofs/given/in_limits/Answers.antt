-- `playouts::given::in_limits` meets its contract: each way out decides the tests up to it.
use mathlib.Core.Path.{◌≡◌}
use mathlib.Core.Bool.{false}
use mathlib.Core.Logic.{⊎_elim}
use borrow.Author.Tests.{lt-leb, le-leb}
use Rattle.playouts.specs.Playout.{playout_limits}
use Rattle.playouts.proofs.given.in_limits.Goals as goal

pub returns-then-from-le-ASKED_MAX : goal.returns-then-from-le-ASKED_MAX
unfolding playout_limits
returns-then-from-le-ASKED_MAX c =
    let all = c.if-from-le-ASKED_MAX.true in
    simp (← c.within.ensures, all.0, le-leb _ _ all.1, le-leb _ _ all.2) c.within-then-from-le-ASKED_MAX.ensures

pub returns-else-from-le-ASKED_MAX : goal.returns-else-from-le-ASKED_MAX
unfolding playout_limits
returns-else-from-le-ASKED_MAX c =
    let x = c.args in
    ⊎_elim (λ a. simp (← c.within.ensures, a.0, le-leb x.title 15 a.1, lt-leb x.from _ a.2) (cc))
    (⊎_elim (λ a. simp (← c.within.ensures, a.0, lt-leb x.title 15 a.1) (cc)) (λ (a : c.within.result ≡ false). simp (← c.within.ensures, a) (cc))) c.if-from-le-ASKED_MAX.either
