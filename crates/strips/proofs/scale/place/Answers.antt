-- `strips::scale::place` meets its contract: the product fits, and the sum is the definition's.
use native.Mathlib.Omega.{arith}
use Rattle.strips.proofs.Scales.{product_low, place_is}
use Rattle.strips.proofs.scale.place.Goals as goal

pub returns : goal.returns
returns c =
    let at_part = c in
    let at-since = at_part in
    let at_start = at-since in
    record {
      is = place_is at_start.args.s at_start.args.time _ _ at-since.since.ensures at_part.part.ensures.0;
      low = omega arith;
      high = omega (arith, product_low _ _ _ at_part.part.ensures.1 c.struct_known-1.given.1.1.0.fits c.struct_known-1.given.1.1.1.0.fits);
    }
