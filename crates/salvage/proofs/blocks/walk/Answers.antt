-- `salvage::blocks::walk` meets its contract and ends: each turn is one step of the scan of whatever log the window stands in.
use mathlib.Core.Path.{sym, ◌∙◌}
use Prim.Native.Nat.{◌+◌, ◌-◌}
use native.Mathlib.Omega.{arith}
use lib.ListN.{length}
use Rattle.salvaging.proofs.Laying.{falls}
use Rattle.salvage.proofs.Walking.{WalkedTo, not_begun, between, in_window, walked_on_lem, at_end, undecided}
use Rattle.salvage.proofs.Ended.{ended}
use borrow.Author.Rules.{rules}
use Rattle.salvage.proofs.blocks.walk.Goals as goal

pub loop-progress-init : goal.loop-progress-init
loop-progress-init c = not_begun _ _ _ _ _ c.requires.0

pub overflow_sub-progress : goal.overflow_sub-progress
overflow_sub-progress c = omega (arith, c.loop-progress.invariant.ahead)

pub overflow_sub-progress-in-loop-progress : goal.overflow_sub-progress-in-loop-progress
overflow_sub-progress-in-loop-progress c = omega (arith, c.loop-progress.invariant.ahead)

pub advance-next-requires : goal.advance-next-requires
advance-next-requires c =
    let f = c.loop-progress.invariant in
    (f.counts, in_window _ _ _ _ _ _ _ _ _ _ f c.requires.1)

pub put_taken-at-requires : goal.put_taken-at-requires
put_taken-at-requires c = between _ _ _ _ _ _ _ _ _ _ _ c.loop-progress.invariant c.advance-next.ensures c.loop-progress-test.true

pub put_said-requires : goal.put_said-requires
put_said-requires c = c.loop-progress.invariant.counts

pub loop-progress-smaller : goal.loop-progress-smaller
loop-progress-smaller c = falls _ _ _ _ c.loop-progress.invariant.ahead c.advance-next.ensures c.loop-progress-test.true

pub loop-progress-preserved : goal.loop-progress-preserved
loop-progress-preserved c =
    walked_on_lem _ _ _ _ _ _ _ _ _ _ _ _ _ _ _ c.loop-progress.invariant c.advance-next.ensures c.put_taken-at.ensures
    (ended c.from-page.ensures c.put_said.ensures c.end-said.ensures.place c.end-said.ensures.row search)
    c.loop-progress-test.true (sym c.decided.ensures ∙ c.if-decided.true)

pub shape_of-area-else-decided : goal.shape_of-area-else-decided
shape_of-area-else-decided c = c.loop-progress.invariant.area_size

pub shape_of-told-else-decided : goal.shape_of-told-else-decided
shape_of-told-else-decided c = c.loop-progress.invariant.told_size

pub returns-else-decided : goal.returns-else-decided
returns-else-decided c = undecided _ _ _ _ _ _ _ _ _ _ c.loop-progress.invariant (sym c.decided.ensures ∙ c.if-decided.false)

pub shape_of-area-after-loop-progress : goal.shape_of-area-after-loop-progress
shape_of-area-after-loop-progress c = c.loop-progress.invariant.area_size

pub shape_of-told-after-loop-progress : goal.shape_of-told-after-loop-progress
shape_of-told-after-loop-progress c = c.loop-progress.invariant.told_size

pub returns-after-loop-progress : goal.returns-after-loop-progress
returns-after-loop-progress c = at_end _ _ _ _ _ _ _ _ _ _ c.loop-progress.invariant c.loop-progress-test.false
