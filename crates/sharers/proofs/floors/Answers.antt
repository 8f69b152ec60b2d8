-- `floors` meets its contract: the loop's number is the sum of the floors passed, which the ids that take part have too.
use mathlib.Core.Path.{refl, sym, ap, ◌∙◌}
use native.Mathlib.Omega.{arith}
use native.Mathlib.Numerals.{add-one}
use native.Mathlib.Nat.{le_antisymm}
use Rattle.rules.specs.Limits.{titles_max}
use Rattle.rules.specs.Search.{total}
use Rattle.story.specs.Kept.{title_at}
use Rattle.measures.proofs.Within.{title_ok_lem, numbers}
use Rattle.sharers.specs.Sharers.{takes_part, sharers, floors_of}
use Rattle.sharers.proofs.Ids.{ids_total}
use borrow.Author.Rules.{rules}
use Rattle.sharers.proofs.floors.Goals as goal

pub loop-t-init : goal.loop-t-init
unfolding total
loop-t-init c = search rules

pub floor_of-sum-requires : goal.floor_of-sum-requires
floor_of-sum-requires c =
    let at = c in
    numbers _ (title_ok_lem at.args.s at.requires at.loop-t.t-index c.loop-t-test.true)

pub overflow_add-sum : goal.overflow_add-sum
overflow_add-sum c = omega arith

pub loop-t-preserved : goal.loop-t-preserved
unfolding total
loop-t-preserved c = (rw (add-one, ← c.loop-t.invariant.0, c.floor_of-sum.ensures.0) refl, omega arith)

pub returns : goal.returns
unfolding floors_of sharers
returns c =
    let s = c.args.s in
    let all = le_antisymm c.loop-t.auto.t-index-end c.loop-t-test.false in
    c.loop-t.invariant.0 ∙ ap (total _) all
    ∙ sym (ids_total (takes_part s) (λ i. (title_at s i).film.floor) titles_max)
