-- `judging::telling::tell` meets its contract. The invariant: the ticks passed are told.
use mathlib.Core.Path.{◌≡◌, ap, ◌∙◌}
use native.Mathlib.Omega.{arith}
use native.Mathlib.Nat.{le_antisymm}
use borrow.Author.Rules.{rules}
use lib.ListN.{length}
use Rattle.judging.specs.inner.Walk.{row_to, counts_to}
use Rattle.judging.proofs.Told.{row_length_lem, room_left_lem, told_next}
use Rattle.judging.proofs.telling.tell.Goals as goal

pub loop-start-init : goal.loop-start-init
unfolding row_to counts_to
loop-start-init c = search rules

pub put-counts-requires : goal.put-counts-requires
put-counts-requires c =
    let a = c.args in
    let pre = c.requires in
    let l = c.loop-start in
    room_left_lem a.results.now a.marks.now a.cells a.ticks a.row.now l.start l.row l.counts l.invariant.0
    l.invariant.1 (omega arith) pre.ticks_in_bounds.2 pre.cells_le_plan_places.1

pub loop-start-preserved : goal.loop-start-preserved
loop-start-preserved c =
    let l = c.loop-start in
    let a = c.args in
    told_next a.results.now a.marks.now a.cells a.ticks a.row.now l.start l.row _ l.counts _ _ l.invariant.0
    l.invariant.1 c.is_whole-whole.ensures c.put-counts.ensures

pub shape_of-row : goal.shape_of-row
shape_of-row c =
    let a = c.args in
    let l = c.loop-start in
    ap length l.invariant.0 ∙ row_length_lem a.results.now a.marks.now a.cells a.ticks a.row.now l.start

pub returns : goal.returns
returns c =
    let l = c.loop-start in
    let end : l.start ≡ c.args.ticks = le_antisymm l.auto.start-end c.loop-start-test.false in
    record { left = l.invariant.0 ∙ ap (row_to _ _ _ _ _) end; counts = l.invariant.1 ∙ ap (counts_to _ _ _ _) end }
