-- `steady_cell` meets its contract: a lane's first cell, and how far it has come from there. Rests on the laws of lanes.
use mathlib.Core.Path.{refl}
use Prim.Native.Nat.{◌%◌, ◌<◌}
use native.Mathlib.Omega.{arith}
use native.Mathlib.Nat.{mod-lt}
use borrow.Author.Rules.{rules}
use Rattle.scheme.specs.Scheme.{steady_cell}
use Rattle.scheme.proofs.ByKind.{steady_above}
use Rattle.scheme.proofs.steady_cell.Goals as goal

pub returns-then-lane-eq0 : goal.returns-then-lane-eq0
unfolding steady_cell
returns-then-lane-eq0 c = rw c.if-lane-eq0.true refl

pub overflow_add-result : goal.overflow_add-result
overflow_add-result c =
    let r : c.args.tick % c.pow2-own.result < c.pow2-own.result = mod-lt c.args.tick c.pow2-own.ensures.low in
    omega arith

pub returns : goal.returns
returns c =
    let a = c.args in
    simp (steady_above a.lane a.tick c.if-lane-eq0.false, ← c.pow2-own.ensures.is)
