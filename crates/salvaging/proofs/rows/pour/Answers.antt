-- `salvaging::rows::pour` meets its contract and ends: each turn is one step of the scan of whatever log the window stands in.
use mathlib.Core.Path.{sym, ◌∙◌}
use Prim.Native.Nat.{◌+◌, ◌-◌}
use native.Mathlib.Omega.{arith}
use lib.ListN.{length}
use Rattle.salvaging.proofs.Laying.{Pouring, empty, between, in_window, laid_on, falls, at_end, undecided}
use borrow.Author.Rules.{rules}
use Rattle.salvaging.proofs.rows.pour.Goals as goal

pub loop-progress-init : goal.loop-progress-init
loop-progress-init c = empty _ _ _ _ _ c.requires.0

pub overflow_sub-progress : goal.overflow_sub-progress
overflow_sub-progress c = omega (arith, c.loop-progress.invariant.ahead)

pub overflow_sub-progress-in-loop-progress : goal.overflow_sub-progress-in-loop-progress
overflow_sub-progress-in-loop-progress c = omega (arith, c.loop-progress.invariant.ahead)

pub advance-next-requires : goal.advance-next-requires
advance-next-requires c =
    let turn = c in
    let f = turn.loop-progress.invariant in
    (f.counts, in_window _ _ _ _ _ _ _ _ _ f turn.requires.1)

pub lay-to-requires : goal.lay-to-requires
lay-to-requires c =
    let went = c in
    let inside = went in
    let f = inside.loop-progress.invariant in
    (f.counts, between _ _ _ _ _ _ _ _ _ _ f went.advance-next.ensures inside.loop-progress-test.true)

pub loop-progress-smaller : goal.loop-progress-smaller
loop-progress-smaller c =
    let went = c in
    let inside = went in
    falls _ _ _ _ inside.loop-progress.invariant.ahead went.advance-next.ensures inside.loop-progress-test.true

pub loop-progress-preserved : goal.loop-progress-preserved
loop-progress-preserved c =
    let laid = c in
    let went = laid in
    let decided = went in
    let inside = decided in
    laid_on _ _ _ _ _ _ _ _ _ _ _ _ _ inside.loop-progress.invariant went.advance-next.ensures laid.lay-to.ensures
    inside.loop-progress-test.true (sym decided.decided.ensures ∙ decided.if-decided.true)

pub shape_of-area-else-decided : goal.shape_of-area-else-decided
shape_of-area-else-decided c = c.loop-progress.invariant.area_size

pub shape_of-row-else-decided : goal.shape_of-row-else-decided
shape_of-row-else-decided c = c.loop-progress.invariant.row_size

pub returns-else-decided : goal.returns-else-decided
returns-else-decided c =
    let turn = c in
    undecided _ _ _ _ _ _ _ _ _ turn.loop-progress.invariant (sym c.decided.ensures ∙ c.if-decided.false)

pub shape_of-area-after-loop-progress : goal.shape_of-area-after-loop-progress
shape_of-area-after-loop-progress c = c.loop-progress.invariant.area_size

pub shape_of-row-after-loop-progress : goal.shape_of-row-after-loop-progress
shape_of-row-after-loop-progress c = c.loop-progress.invariant.row_size

pub returns-after-loop-progress : goal.returns-after-loop-progress
returns-after-loop-progress c = at_end _ _ _ _ _ _ _ _ _ c.loop-progress.invariant c.loop-progress-test.false
