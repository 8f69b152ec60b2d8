-- `takings::find` meets its contract. The invariant: no place before shows the cell.
use mathlib.Core.Path.{sym, ap, ◌∙◌}
use native.Mathlib.Omega.{arith}
use native.Mathlib.Nat.{le_antisymm}
use borrow.Author.Tests.{eq-eqb, ne_eqb}
use Rattle.rules.specs.Search.{first}
use Rattle.takings.proofs.Places.{first_none, first_on, first_here}
use Rattle.takings.proofs.find.Goals as goal

pub loop-i-init : goal.loop-i-init
loop-i-init c = first_none _

pub returns-then-number-cell : goal.returns-then-number-cell
returns-then-number-cell c =
    let l = c.loop-i in
    (sym (first_here _ l.i _ l.invariant (eq-eqb _ _ c.if-number-cell.true) (omega arith)), omega arith)

pub loop-i-preserved : goal.loop-i-preserved
loop-i-preserved c = first_on _ c.loop-i.i c.loop-i.invariant (ne_eqb _ _ c.if-number-cell.false)

pub returns : goal.returns
returns c =
    let l = c.loop-i in
    let all = le_antisymm c.loop-i-test.false l.auto.i-end in
    (all ∙ sym l.invariant ∙ ap (first _) (sym all), omega arith)
