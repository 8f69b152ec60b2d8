-- `slot` meets its contract: one tick of a skip-forward title, and the grid's slot of another. Rests on what its callee ensures.
use mathlib.Core.Path.{refl}
use native.Mathlib.Omega.{arith}
use borrow.Author.Rules.{rules}
use Rattle.scheme.proofs.ByKind.{steady_scheme, padded_scheme}
use Rattle.scheme.proofs.slot.Goals as goal

pub returns-then-kind-eq-STEADY : goal.returns-then-kind-eq-STEADY
returns-then-kind-eq-STEADY c =
    let a = c.args in
    rw (steady_scheme a.kind a.floor a.cap c.if-kind-eq-STEADY.true) (record { is = refl; low = omega arith; high = omega arith })

pub returns : goal.returns
returns c =
    let a = c.args in
    rw (padded_scheme a.kind a.floor a.cap c.if-kind-eq-STEADY.false) c.slot.ensures
