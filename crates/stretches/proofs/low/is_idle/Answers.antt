-- `is_idle` meets its contract: no count of the film ended later, and the tick is a slot start.
use Prim.Native.Nat.{◌%◌}
use native.Mathlib.Omega.{arith}
use borrow.Author.Tests.{eqb-true}
use Rattle.stretches.proofs.low.is_idle.Goals as goal

pub returns-then-latest-at : goal.returns-then-latest-at
returns-then-latest-at c = λ b.
    record {
      aligned = rw c.slot.ensures.is at (eqb-true (c.args.at % c.slot.result) 0 b);
      ended = λ k low fit. omega (arith, c.latest_above-latest.ensures.ended k (omega arith) (omega arith), c.if-latest-at.true);
    }
