-- `grid::shift` meets its contract: a power of two less one. Rests on what its callee ensures.
use native.Mathlib.Omega.{arith}
use mathlib.Core.Path.{ap}
use Prim.Native.Nat.{◌-◌}
use Rattle.grid.specs.Channels.{shift}
use Rattle.grid.proofs.shift.Goals as goal

pub returns : goal.returns
unfolding shift
returns c =
    record {
      is = ap (λ n. n - 1) c.pow2.ensures.is;
      low = omega arith;
      high = omega (arith, c.pow2.ensures.high);
    }
