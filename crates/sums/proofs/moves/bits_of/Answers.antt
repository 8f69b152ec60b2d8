-- `bits_of` meets its contract. Rests on the place of a number's highest one-bit.
use Prim.Native.Nat.{◌-◌}
use mathlib.Core.Path.{◌≡◌}
use native.Mathlib.Omega.{arith}
use lib.Count.{count_leading_zeros}
use Rattle.std.proofs.lemmas.Nat.{leading_le, leading_length}
use Rattle.sums.proofs.moves.bits_of.Goals as goal

pub overflow_sub-n : goal.overflow_sub-n
overflow_sub-n c = leading_le 64 c.args.n

pub returns : goal.returns
returns c =
    let n = c.args.n in
    let r = leading_length 64 n c.ranges.n.fits in
    let e : 64 - count_leading_zeros 64 n ≡ r.0 = omega (arith, r.1) in
    rw (c.from.ensures, e) (r.2, omega (arith, r.1))
