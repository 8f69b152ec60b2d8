-- `shared_pool` meets its contract: the loop's number is the sum of the lanes kept apart in the slots passed.
use Prim.Native.Nat.{◌-◌}
use mathlib.Core.Path.{refl, ap, ◌∙◌}
use native.Mathlib.Omega.{arith}
use native.Mathlib.Numerals.{add-one}
use native.Mathlib.Nat.{le_antisymm}
use Rattle.rules.specs.Search.{total}
use Rattle.measures.proofs.Within.{title_ok_lem, count_high}
use Rattle.sharers.specs.Sharers.{shared_pool}
use borrow.Author.Rules.{rules}
use Rattle.sharers.proofs.shared_pool.Goals as goal

pub loop-t-init : goal.loop-t-init
unfolding total
loop-t-init c = search rules

pub kept_apart-sum-requires : goal.kept_apart-sum-requires
kept_apart-sum-requires c =
    let at = c in
    count_high _ (title_ok_lem at.args.s at.requires at.loop-t.t-index c.loop-t-test.true)

pub overflow_add-sum : goal.overflow_add-sum
overflow_add-sum c = omega arith

pub loop-t-preserved : goal.loop-t-preserved
unfolding total
loop-t-preserved c = (rw (add-one, ← c.loop-t.invariant.0, c.kept_apart-sum.ensures.0) refl, omega arith)

pub returns : goal.returns
unfolding shared_pool
returns c =
    let l = c.loop-t in
    c.saturating_sub.ensures ∙ ap (λ n. c.args.s.pool - n) (l.invariant.0 ∙ ap (total _) (le_antisymm l.auto.t-index-end c.loop-t-test.false))
