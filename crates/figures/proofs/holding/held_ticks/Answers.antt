-- `held_ticks` meets its contract: the ticks passed in which the lane was held.
use Prim.Native.Nat.{◌+◌, ◌*◌, ◌^◌, ◌≤◌}
use mathlib.Core.Path.{◌≡◌, refl}
use native.Mathlib.Omega.{arith}
use native.Mathlib.Numerals.{add-one}
use native.Mathlib.Nat.{mul-le-mul}
use borrow.Author.Rules.{rules}
use Rattle.rules.specs.Limits.{count_max}
use Rattle.rules.specs.Search.{how_many}
use Rattle.figures.specs.Holding.{held_of}
use Rattle.figures.proofs.holding.held_ticks.Goals as goal

pub loop-i-init : goal.loop-i-init
unfolding held_of how_many
loop-i-init c = (omega arith, c.pow2-reach.ensures.high, refl)

pub overflow_mul-drop : goal.overflow_mul-drop
overflow_mul-drop c =
    let l = c.loop-i in
    let low : c.args.drop + l.i ≤ 3 * 2 ^ count_max = omega arith in
    record { fits = omega (arith, mul-le-mul low c.slot_ms-tick.ensures.high) }

pub loop-i-preserved : goal.loop-i-preserved
unfolding held_of how_many
loop-i-preserved c = (omega (arith, c.held_at-held.ensures.high), search rules, rw add-one (cc))

pub returns : goal.returns
returns c =
    let l = c.loop-i in
    let end : l.i ≡ c.pow2-reach.result = omega arith in
    record { is = cc end; low = omega arith; high = omega (arith, end) }
