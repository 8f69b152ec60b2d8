-- `pass` meets its contract: the wishes of the ids passed are collected.
use mathlib.Core.Path.{ap, ◌∙◌}
use native.Mathlib.Numerals.{add-one}
use native.Mathlib.Nat.{le_antisymm}
use lib.ListN.{get_or}
use Rattle.wishes.specs.Passes.{moves_at, pass_to}
use Rattle.wishes.proofs.passes.Laws.{pass_room}
use Rattle.wishes.proofs.passes.Both.{pass_fits}
use borrow.Author.Rules.{rules}
use Rattle.wishes.proofs.passes.pass.Goals as goal

pub loop-i-init : goal.loop-i-init
unfolding pass_to
loop-i-init c = search rules

pub wished_if-q-requires : goal.wished_if-q-requires
wished_if-q-requires c =
    let at_test = c in
    let at = at_test in
    let a = at.args in
    rw (at.loop-i.invariant, c.moves.ensures)
    (pass_room (moves_at a.up a.s a.shares.now) (λ j. get_or a.shares.now j 0) a.w at.loop-i.i
    at_test.loop-i-test.true (pass_fits a.up a.s a.shares.now a.w.many at.requires))

pub loop-i-preserved : goal.loop-i-preserved
unfolding pass_to
loop-i-preserved c =
    let at-moves = c in
    let at = at-moves in
    rw (add-one, ← at.loop-i.invariant, ← at-moves.moves.ensures) c.wished_if-q.ensures

pub returns : goal.returns
returns c =
    let all = le_antisymm c.loop-i.auto.i-end c.loop-i-test.false in
    c.loop-i.invariant ∙ ap (pass_to _ _ _) all
