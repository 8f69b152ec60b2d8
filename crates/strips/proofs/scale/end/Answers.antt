-- `strips::scale::end` meets its contract: the larger of two places.
use native.Mathlib.Omega.{arith}
use Rattle.strips.proofs.Scales.{end_is}
use Rattle.strips.proofs.scale.end.Goals as goal

pub returns : goal.returns
returns c =
    let at-struct-known = c in
    let at-place2 = at-struct-known in
    let at_place = at-place2 in
    let at_start = at_place in
    record {
      is = end_is at_start.args.s at_start.args.from at_start.args.to _ _ _ at_place.place.ensures.is at-place2.place-2.ensures.is c.max.ensures;
      low = omega (arith, at_place.place.ensures.low, c.max.ensures);
      high = omega (arith, at_place.place.ensures.high, at-place2.place-2.ensures.high, c.max.ensures, at-struct-known.struct_known-1.given.1.1.1.0.fits);
    }
