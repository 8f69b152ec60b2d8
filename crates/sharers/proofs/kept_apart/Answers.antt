-- `kept_apart` meets its contract: each way out decides the kind.
use native.Mathlib.Omega.{arith}
use borrow.Author.Tests.{eq-eqb, ne_eqb}
use Rattle.sharers.proofs.Sharers.{rules_few}
use Rattle.sharers.proofs.kept_apart.Goals as goal

pub returns-then-t-eq-STEADY : goal.returns-then-t-eq-STEADY
returns-then-t-eq-STEADY c =
    let start = c in
    let few = rules_few start.args.t start.requires in
    (simp (eq-eqb _ _ c.if-t-eq-STEADY.true) c.ruling.ensures, omega (arith, c.ruling.ensures, few))

pub returns : goal.returns
returns c = (simp (ne_eqb _ _ c.if-t-eq-STEADY.false), omega arith)
