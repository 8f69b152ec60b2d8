-- `from_on_lem` meets its contract: as many slots as are left up to the channel's last place.
use native.Mathlib.Omega.{arith}
use Rattle.stretches.proofs.Steps.{from_is, small}
use Rattle.stretches.proofs.upper.from_on.Goals as goal

pub overflow_mul-result : goal.overflow_mul-result
overflow_mul-result c =
    let s = c in
    record { fits = omega (arith, small c.saturating_sub.result s.args.s.width (omega (arith, c.saturating_sub.ensures, c.pow2.ensures.high)) s.requires.walk.width) }

pub returns : goal.returns
returns c =
    let s = c in
    let p = c.pow2 in
    let r = c.rest_on in
    record {
      is = rw (c.saturating_sub.ensures, r.ensures.is, p.ensures.is) (from_is s.args.s s.args.channel);
      low = omega arith;
      high = omega (arith, small c.saturating_sub.result s.args.s.width (omega (arith, c.saturating_sub.ensures, p.ensures.high)) s.requires.walk.width);
    }
