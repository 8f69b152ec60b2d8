-- `admissions::admit` meets its contract: two comparisons, then the wait.
use mathlib.Core.Path.{sym}
use Rattle.admissions.proofs.Slots.{comes_before, comes_after, comes_in}
use Rattle.admissions.proofs.admit.Goals as goal
use Rattle.admissions.proofs.admit.Goals.{then-x-from-via-then-x-from, then-x-from-via-else-x-from+then-upto-x}

pub returns-then-x-from : goal.returns-then-x-from
returns-then-x-from c =
    elim c.then-x-from.branch [
      | then-x-from-via-then-x-from w ↦ sym (comes_before _ _ _ _ _ w.if-x-from.true)
      | then-x-from-via-else-x-from+then-upto-x w ↦ sym (comes_after _ _ _ _ _ w.if-upto-x.true)
    ]

pub returns : goal.returns
returns c =
    comes_in _ _ _ _ _ _ _ c.if-x-from.false c.if-upto-x.false c.next.ensures c.max.ensures
