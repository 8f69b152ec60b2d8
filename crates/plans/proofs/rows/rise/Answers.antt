-- `plans::rows::rise` meets its contract: the numbers that have risen are written.
-- Rests on the laws of numbers written into a row.
use mathlib.Core.Path.{◌≡◌, refl, ap, ◌∙◌}
use Prim.Native.Nat.{◌+◌, ◌-◌}
use native.Mathlib.Omega.{arith}
use borrow.Author.Rules.{rules}
use Rattle.plans.specs.inner.Rows.{written_from, rising_at}
use Rattle.plans.proofs.rows.Written.{from_next}
use Rattle.plans.proofs.rows.rise.Goals as goal

pub loop-risen-init : goal.loop-risen-init
unfolding written_from
loop-risen-init c = search rules

pub loop-risen-preserved : goal.loop-risen-preserved
loop-risen-preserved c =
    let a = c.args in
    let l = c.loop-risen in
    let e : a.from + l.risen - a.from ≡ l.risen = omega arith in
    let v = a.first + l.risen in
    from_next (rising_at a.from a.first) a.row.now a.from l.row l.risen v l.invariant (rw e refl)

pub returns : goal.returns
returns c =
    let a = c.args in
    let l = c.loop-risen in
    l.invariant ∙ ap (written_from (rising_at a.from a.first) a.row.now a.from) (omega arith)
