-- `salvage::input::pass_filled` meets its contract: what a block does not decide is kept.
use mathlib.Core.Path.{sym}
use native.Mathlib.Omega.{arith}
use lib.Seq.{length-take-le}
use Rattle.salvage.proofs.Passing.{block_counts, block_ahead, kept_few, over_counts, over_none}
use borrow.Author.Rules.{rules}
use Rattle.salvage.proofs.input.pass_filled.Goals as goal

pub returns-then-filled-base : goal.returns-then-filled-base
returns-then-filled-base c =
    let e = c.ended.ensures in
    (over_none c.ended.result e.0, over_counts _ c.ended.result e c.requires.0)

pub slice_bounds-pass_on-end-2 : goal.slice_bounds-pass_on-end-2
slice_bounds-pass_on-end-2 c = sym (length-take-le _ _ c.requires.1.0)

pub pass_on-passed-requires : goal.pass_on-passed-requires
pass_on-passed-requires c =
    let pre = c.requires in
    let size = slice_bounds-pass_on-end-2 c in
    (pre.0, (omega (arith, size, pre.1.0, pre.1.1), omega (arith, size, c.if-filled-base.false)))

pub overflow_sub-next : goal.overflow_sub-next
overflow_sub-next c = block_ahead _ _ _ _ c.pass_on-passed.ensures

pub returns-then-passed : goal.returns-then-passed
returns-then-passed c =
    let moved = c in
    let passed = moved in
    let w = passed.pass_on-passed.ensures in (
      (λ _. kept_few _ _ _ _ _ _ _ w (sym (length-take-le _ _ c.requires.1.0)) moved.compact.ensures.many),
      block_counts _ _ _ _ w,
    )

pub returns : goal.returns
returns c =
    let e = c.ended-2.ensures in
    let counts = block_counts _ _ _ _ c.pass_on-passed.ensures in
    (over_none c.ended-2.result e.0, over_counts _ c.ended-2.result e counts)
