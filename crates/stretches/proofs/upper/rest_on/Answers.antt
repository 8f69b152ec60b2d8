-- `rest_on` meets its contract: a remainder by a power of two.
use native.Mathlib.Omega.{arith}
use Rattle.stretches.specs.inner.Walk.{rest_on}
use Rattle.stretches.proofs.Steps.{rest_low}
use Rattle.stretches.proofs.upper.rest_on.Goals as goal

pub returns : goal.returns
unfolding rest_on
returns c =
    let a = c in
    record {
      is = simp (c.pow2.ensures.is, c.min.ensures);
      low = omega arith;
      high = simp (c.pow2.ensures.is, c.min.ensures) (rest_low a.args.s a.args.channel a.requires);
    }
