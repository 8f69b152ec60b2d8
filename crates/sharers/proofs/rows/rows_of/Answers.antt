-- `rows_of` meets its contract: the titles passed have joined.
use mathlib.Core.Path.{ap, ◌∙◌}
use native.Mathlib.Numerals.{add-one}
use native.Mathlib.Nat.{le_antisymm}
use Rattle.measures.proofs.Within.{title_ok_lem, numbers}
use Rattle.sharers.specs.Rows.{rows_to}
use Rattle.sharers.proofs.Sharers.{rows_room}
use borrow.Author.Rules.{rules}
use Rattle.sharers.proofs.rows.rows_of.Goals as goal

pub loop-i-init : goal.loop-i-init
unfolding rows_to
loop-i-init c = search rules

pub joined_if_part-q-requires : goal.joined_if_part-q-requires
joined_if_part-q-requires c =
    let at_test = c in
    let at = at_test in
    let start = at in
    let a = start.args in
    let taken = at_test.loop-i-test.true in (
      rw at.loop-i.invariant (rows_room a.s a.rates.now at.loop-i.i taken),
      numbers _ (title_ok_lem a.s start.requires.0 at.loop-i.i taken),
    )

pub loop-i-preserved : goal.loop-i-preserved
unfolding rows_to
loop-i-preserved c = rw (add-one, ← c.loop-i.invariant) c.joined_if_part-q.ensures

pub returns : goal.returns
returns c =
    let all = le_antisymm c.loop-i.auto.i-end c.loop-i-test.false in
    c.loop-i.invariant ∙ ap (rows_to _ _) all
