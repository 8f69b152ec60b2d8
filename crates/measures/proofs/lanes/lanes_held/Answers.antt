-- `lanes_held` meets its contract: the loop's number is the sum over the titles passed.
use mathlib.Core.Path.{refl, ap, ◌∙◌}
use native.Mathlib.Omega.{arith}
use native.Mathlib.Numerals.{add-one}
use native.Mathlib.Nat.{le_antisymm}
use Rattle.rules.specs.Search.{total}
use Rattle.story.specs.Kept.{lanes_held}
use borrow.Author.Rules.{rules}
use Rattle.measures.proofs.lanes.lanes_held.Goals as goal

pub loop-t-init : goal.loop-t-init
unfolding total
loop-t-init c = search rules

pub title_held-n-requires : goal.title_held-n-requires
title_held-n-requires c = c.requires c.loop-t.t-index c.loop-t-test.true

pub overflow_add-n : goal.overflow_add-n
overflow_add-n c = omega arith

pub loop-t-preserved : goal.loop-t-preserved
unfolding total
loop-t-preserved c = (rw (add-one, ← c.loop-t.invariant.0, c.title_held-n.ensures.is) refl, omega arith)

pub returns : goal.returns
unfolding lanes_held
returns c =
    let all = le_antisymm c.loop-t.auto.t-index-end c.loop-t-test.false in
    c.loop-t.invariant.0 ∙ ap (total _) all
