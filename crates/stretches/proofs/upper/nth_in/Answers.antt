-- `nth_in` meets its contract: the first channel whose stretch reaches past the number has the tick.
use mathlib.Core.Path.{refl}
use mathlib.Core.Logic.{inl, inr}
use native.Mathlib.Omega.{arith}
use native.Mathlib.Numerals.{add-one}
use native.Mathlib.Nat.{le_antisymm}
use Rattle.rules.specs.Search.{total}
use Rattle.stretches.specs.inner.Walk.{ticks_to}
use Rattle.stretches.proofs.Steps.{ticks_more, small}
use Rattle.stretches.proofs.upper.nth_in.Goals as goal

pub loop-i-init : goal.loop-i-init
unfolding ticks_to total
loop-i-init c = (refl, omega arith, omega arith)

pub returns-then-nth-owed : goal.returns-then-nth-owed
returns-then-nth-owed c =
    let l = c.loop-i in
    let s = c.args.s in
    let t = c.ticks_on-ticks in
    let e = rw (add-one l.i) at (ticks_more s l.i l.owed t.result l.invariant.0 t.ensures.is) in
    inl (
      l.i,
      omega (arith, c.loop-i-test.true),
      omega (arith, l.invariant.0, l.invariant.2),
      omega (arith, e, c.if-nth-owed.true),
      rw (c.from_on.ensures.is, add-one l.i, l.invariant.0) refl,
    )

pub loop-i-preserved : goal.loop-i-preserved
loop-i-preserved c =
    let l = c.loop-i in
    let s = c.args.s in
    let t = c.ticks_on-ticks in
    (ticks_more s l.i l.owed t.result l.invariant.0 t.ensures.is, omega (arith, t.ensures.high), omega arith)

pub overflow_mul-result : goal.overflow_mul-result
overflow_mul-result c =
    let s = c in
    record { fits = omega (arith, small c.pow2.result s.args.s.width (omega (arith, c.pow2.ensures.high)) s.requires.width) }

pub returns : goal.returns
returns c =
    let l = c.loop-i in
    let e = le_antisymm l.auto.i-end c.loop-i-test.false in
    inr (omega (arith, rw e at l.invariant.0, l.invariant.2), rw c.pow2.ensures.is refl)
