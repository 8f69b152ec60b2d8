-- `judging::results::is_late` meets its contract: the film test, then the comparison of the next tick with the turn.
use Prim.Native.Nat.{◌*◌, ◌≤◌}
use native.Mathlib.Omega.{arith}
use native.Mathlib.Nat.{mul-le-mul}
use borrow.Author.Tests.{lt-ltb, le-ltb}
use Rattle.rules.specs.Limits.{plan_places, length_max}
use Rattle.scheme.specs.Scheme.{film_in}
use Rattle.judging.specs.inner.Walk.{is_late}
use Rattle.judging.proofs.results.is_late.Goals as goal

pub overflow_mul-cell : goal.overflow_mul-cell
overflow_mul-cell c =
    let a = c.args in
    let within : a.cell ≤ plan_places = omega arith in
    let most : a.cell * a.tick ≤ plan_places * length_max = mul-le-mul within c.requires.tick_in_bounds.0 in
    record { fits = omega arith }

pub overflow_cast-result : goal.overflow_cast-result
overflow_cast-result c = omega (arith, c.shared_slice_known-1.given c.args.cell)

pub returns-then-cell-tick : goal.returns-then-cell-tick
unfolding is_late film_in
returns-then-cell-tick c = simp (lt-ltb _ _ c.if-cell-tick.true)

pub returns-else-cell-tick : goal.returns-else-cell-tick
unfolding is_late film_in
returns-else-cell-tick c = simp (le-ltb _ _ c.if-cell-tick.false)
