-- `highest` meets its contract: the number's logarithm is at most the largest count.
use mathlib.Core.Path.{◌≡◌, ap, ◌∙◌}
use mathlib.Core.Logic.{⊎_elim}
use Prim.Native.Nat.{ℕ, suc, ◌^◌, ◌≤◌}
use native.Mathlib.Omega.{arith}
use lib.Dec.{ltb}
use lib.Pow.{pow_mono}
use borrow.Author.Tests.{ltb-true, ltb-false}
use Rattle.rules.specs.Limits.{count_max}
use Rattle.rules.proofs.Tests.{decide}
use Rattle.stretches.proofs.low.highest.Goals as goal

pub pow2-requires : goal.pow2-requires
pow2-requires c =
    let k = c.ilog2.result in
    ⊎_elim
    (λ t.
    let far : suc count_max ≤ k = ltb-true count_max k t in
    let m : 2 ^ suc count_max ≤ 2 ^ k = pow_mono {i = suc count_max} {j = k} far in
    absurd (omega (arith, c.ilog2.ensures.power_le, c.requires.1)))
    (λ t. omega (arith, ltb-false count_max k t, c.from.ensures))
    (decide (ltb count_max k))

pub returns : goal.returns
returns c =
    let k = c.ilog2.result in
    let is : c.pow2.result ≡ 2 ^ k = c.pow2.ensures.is ∙ ap (λ (n : ℕ). 2 ^ n) c.from.ensures in
    (k, is, rw is c.ilog2.ensures.power_le, omega (arith, c.ilog2.ensures.next_power_gt))
