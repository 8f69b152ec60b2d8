-- `rest` meets its contract: the bytes passed have gone in.
-- Rests on the laws of registers of parts.
use Prim.Native.Nat.{◌-◌}
use mathlib.Core.Path.{◌≡◌, ap, ◌∙◌}
use native.Mathlib.Omega.{arith}
use Rattle.sums.specs.inner.Moves.{register_from}
use Rattle.sums.proofs.Parted.{none_in, next_at}
use Rattle.sums.proofs.rest.Goals as goal

pub loop-at-init : goal.loop-at-init
loop-at-init c =
    let a = c.args in
    let e : a.from - a.from ≡ 0 = omega arith in
    rw e (none_in a.bytes.now a.from a.r)

pub loop-at-preserved : goal.loop-at-preserved
loop-at-preserved c =
    let l = c.loop-at in
    let a = c.args in
    next_at a.bytes.now a.from a.r l.at l.x _ (omega arith) l.invariant c.next-x.ensures

pub returns : goal.returns
returns c =
    let l = c.loop-at in
    let a = c.args in
    l.invariant ∙ ap (λ n. register_from a.bytes.now a.from a.r (n - a.from)) (omega (arith, c.requires))
