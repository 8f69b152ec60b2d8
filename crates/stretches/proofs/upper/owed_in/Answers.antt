-- `owed_in` meets its contract: the loop's number is that of the channels passed.
use mathlib.Core.Path.{refl}
use native.Mathlib.Omega.{arith}
use native.Mathlib.Nat.{le_antisymm}
use Rattle.rules.specs.Search.{total}
use Rattle.stretches.specs.inner.Walk.{ticks_to}
use Rattle.stretches.proofs.Steps.{ticks_more}
use Rattle.stretches.proofs.upper.owed_in.Goals as goal

pub loop-i-init : goal.loop-i-init
unfolding ticks_to total
loop-i-init c = (refl, omega arith)

pub loop-i-preserved : goal.loop-i-preserved
loop-i-preserved c =
    let l = c.loop-i in
    let s = c.args.s in
    (ticks_more s l.i l.owed c.ticks_on-owed.result l.invariant.0 c.ticks_on-owed.ensures.is, omega (arith, c.ticks_on-owed.ensures.high))

pub returns : goal.returns
returns c = cc (le_antisymm c.loop-i.auto.i-end c.loop-i-test.false)
