-- `frames::bands::band_height` meets its contract: nothing without a cap, else a row for each lane.
use mathlib.Core.Path.{refl}
use native.Mathlib.Omega.{arith}
use borrow.Author.Tests.{eq-eqb, ne_eqb}
use Rattle.frames.specs.Bands.{band_height}
use Rattle.frames.proofs.bands.band_height.Goals as goal

pub returns-then-cap-eq0 : goal.returns-then-cap-eq0
unfolding band_height
returns-then-cap-eq0 c =
    rw (eq-eqb _ _ c.if-cap-eq0.true) (record { is = refl; low = omega arith; high = omega arith })

pub returns : goal.returns
unfolding band_height
returns c =
    let at-if1 = c in
    rw (ne_eqb _ _ at-if1.if-cap-eq0.false, ← c.lanes_height.ensures.0) (record { is = refl; low = omega arith; high = omega (arith, c.lanes_height.ensures.1) })
