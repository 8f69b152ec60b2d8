-- `nth_by_ticks` meets its contract: while the tick is not met none of those passed is it, and the first to be met is.
-- Rests on the laws of the search for it.
use mathlib.Core.Path.{◌≡◌, sym, ◌∙◌}
use native.Mathlib.Omega.{arith}
use native.Mathlib.Numerals.{add-one}
use native.Mathlib.Nat.{le_antisymm}
use Rattle.owed.proofs.Nth.{unmet_yet, unmet_owed, unmet_not, met}
use Rattle.owed.proofs.sending.nth_by_ticks.Goals.{then-is_owed+else-owed-nth, else-is_owed}
use Rattle.owed.proofs.sending.nth_by_ticks.Goals as goal

pub loop-i-init : goal.loop-i-init
loop-i-init c = let a = c.args in unmet_yet a.t a.lane a.from a.nth

pub returns-then-owed-nth : goal.returns-then-owed-nth
returns-then-owed-nth c =
    let a = c.args in
    let l = c.loop-i in
    let end = c.reach-end in
    let low = c.loop-i-test.true in
    record {
      is =
          sym
          (met a.t a.lane a.from a.nth _ l.i l.owed (omega (arith, low, end.ensures.is)) l.invariant
          (sym c.is_owed.ensures ∙ c.if-is_owed.true) c.if-owed-nth.true);
      low = omega arith;
      high = omega (arith, low, end.ensures.high);
    }

pub overflow_add-owed : goal.overflow_add-owed
overflow_add-owed c =
    let l = c.loop-i in
    let end = c.reach-end in
    record { fits = omega (arith, l.invariant.few, c.loop-i-test.true, end.ensures.high) }

pub loop-i-preserved : goal.loop-i-preserved
loop-i-preserved c =
    let a = c.args in
    let l = c.loop-i in
    let here = sym c.is_owed.ensures in
    elim c.if-is_owed.branch [
      | then-is_owed+else-owed-nth w ↦
          rw (add-one l.i, w.owed-is, add-one l.owed)
          (unmet_owed a.t a.lane a.from a.nth l.i l.owed l.invariant (here ∙ w.if-is_owed.true)
          w.if-owed-nth.false)
      | else-is_owed w ↦
          rw (add-one l.i, w.owed-is)
          (unmet_not a.t a.lane a.from a.nth l.i l.owed l.invariant (here ∙ w.if-is_owed.false))
    ]

pub returns : goal.returns
returns c =
    let l = c.loop-i in
    let end = c.reach-end in
    let e : l.i ≡ end.result = le_antisymm l.auto.i-end c.loop-i-test.false in
    record {
      is = sym (rw (← end.ensures.is, ← e) l.invariant.none);
      low = omega arith;
      high = omega (arith, e, end.ensures.high);
    }
