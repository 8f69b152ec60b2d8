-- `longest_held` meets its contract: the longest of the drops passed.
use Prim.Native.Nat.{ℕ, ◌/◌, ◌^◌, ◌≤◌, ◌<◌}
use mathlib.Core.Path.{◌≡◌, refl, ◌∙◌}
use native.Mathlib.Omega.{arith}
use native.Mathlib.Numerals.{add-one}
use Rattle.std.proofs.Common.{max, nat_cmp}
use Rattle.std.specs.Ordering.{ord_max}
use mathlib.Core.Logic.{⊎_elim}
use borrow.Author.Tests.{ltb-true, ltb-false}
use Rattle.rules.proofs.Tests.{decide}
use lib.Dec.{ltb}
use borrow.Author.Rules.{rules}
use Rattle.rules.specs.Limits.{count_max}
use Rattle.rules.specs.Refusals.{pick}
use Rattle.figures.specs.Holding.{longest_held}
use Rattle.figures.proofs.holding.longest_held.Goals as goal

is_max : (a b : ℕ) → ord_max nat_cmp a b ≡ max a b
is_max a b = search rules

larger : (a b : ℕ) → ord_max nat_cmp a b ≡ pick (ltb a b) b a
larger a b =
    is_max a b ∙
    ⊎_elim (λ e. let l : a < b = ltb-true a b e in rw e (omega arith)) (λ e. let l : b ≤ a = ltb-false a b e in rw e (omega arith))
    (decide (ltb a b))

pub loop-i-init : goal.loop-i-init
unfolding longest_held
loop-i-init c = (omega arith, c.pow2-period.ensures.is, c.pow2-period.ensures.high, refl)

pub loop-i-preserved : goal.loop-i-preserved
unfolding longest_held
loop-i-preserved c =
    let held = c.held_ticks in
    let l = c.loop-i in
    let most = larger l.most held.result in
    let low : pick (ltb l.most held.result) held.result l.most ≤ 2 ^ count_max = omega (arith, most, is_max l.most held.result, held.ensures.high) in
    (rw (c.max-most.ensures, most) low, search rules, search rules, rw (add-one, c.max-most.ensures, most) (cc))

pub returns : goal.returns
returns c =
    let l = c.loop-i in
    let end : l.i ≡ c.pow2-period.result / 2 = omega arith in
    record { is = cc end; low = omega arith; high = l.invariant.0 }
