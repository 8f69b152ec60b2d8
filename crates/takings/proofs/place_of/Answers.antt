-- `takings::place_of` meets its contract: the first place that shows a cell with film, and none for padding.
use Prim.Native.Nat.{◌*◌, ◌^◌, ◌≤◌}
use mathlib.Core.Path.{◌∙◌}
use native.Mathlib.Omega.{arith}
use native.Mathlib.Nat.{mul-le-mul}
use Rattle.rules.specs.Limits.{length_max}
use Rattle.takings.proofs.Places.{place_film, place_padding}
use borrow.Author.Rules.{rules}
use Rattle.takings.proofs.place_of.Goals as goal

pub overflow_mul-cell : goal.overflow_mul-cell
overflow_mul-cell c =
    let x = c.args in
    let most : x.cell * x.tick ≤ 2 ^ 16 * length_max = mul-le-mul {n₂ = 2 ^ 16} {m₂ = length_max} (search rules) c.requires.tick_in_bounds in
    record { fits = omega arith }

pub returns-then-cell-tick : goal.returns-then-cell-tick
returns-then-cell-tick c = c.find.ensures.0 ∙ place_film _ _ _ _ _ c.if-cell-tick.true

pub returns : goal.returns
returns c = place_padding _ _ _ _ _ c.if-cell-tick.false
