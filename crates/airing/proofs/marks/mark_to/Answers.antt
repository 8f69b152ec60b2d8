-- `airing::marks::mark_to` meets its contract: the ticks passed are marked.
use mathlib.Core.Path.{refl, ap, ◌∙◌}
use Prim.Native.Nat.{◌-◌}
use native.Mathlib.Nat.{le_antisymm}
use native.Mathlib.Omega.{arith}
use Rattle.story.specs.Kept.{tick_at}
use Rattle.airing.specs.inner.Steps.{marked_from, marked_to}
use Rattle.airing.proofs.Ticks.{marked_next, sub_zero}
use Rattle.airing.proofs.marks.mark_to.Goals as goal

pub loop-tick-init : goal.loop-tick-init
unfolding marked_from
loop-tick-init c =
    let is = c.tick_at-tick.ensures.is in
    let none = sub_zero _ _ is in (omega (arith, is), omega (arith, is), rw none refl)

pub loop-tick-preserved : goal.loop-tick-preserved
loop-tick-preserved c =
    let l = c.loop-tick in
    let a = c.args in
    let m = c.mark_in in (
      omega (arith, l.invariant.0),
      omega (arith, l.invariant.0, l.invariant.1, c.loop-tick-test.true),
      marked_next a.t (tick_at a.t a.t.last) a.marks.now l.marks l.tick m.result l.invariant.0 l.invariant.2 m.ensures,
    )

pub returns : goal.returns
unfolding marked_to
returns c =
    let l = c.loop-tick in
    let a = c.args in
    let end = c.min-end.ensures in
    let all = le_antisymm l.invariant.1 (omega (arith, c.loop-tick-test.false)) in
    l.invariant.2 ∙ ap (λ n. marked_from a.t (tick_at a.t a.t.last) a.marks.now n) (all ∙ ap (λ n. n - tick_at a.t a.t.last) end)
