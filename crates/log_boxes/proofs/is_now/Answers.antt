-- `log_boxes::is_now` meets its contract: each way out decides the tests up to it.
use mathlib.Core.Path.{◌≡◌}
use mathlib.Core.Bool.{false}
use mathlib.Core.Logic.{⊎_elim}
use borrow.Author.Tests.{eq-eqb, ne_eqb}
use Rattle.log_boxes.specs.Box.{is_now}
use Rattle.log_boxes.proofs.is_now.Goals as goal

pub returns-then-found-time : goal.returns-then-found-time
unfolding is_now
returns-then-found-time c =
    let all = c.if-found-time.true in
    simp (all.0, eq-eqb _ _ all.1)

pub returns-else-found-time : goal.returns-else-found-time
unfolding is_now
returns-else-found-time c =
    let x = c.args in
    ⊎_elim (λ a. simp (a.0, ne_eqb x.found.from x.time a.1) (cc)) (λ (a : x.found.follows ≡ false). simp a (cc)) c.if-found-time.either
