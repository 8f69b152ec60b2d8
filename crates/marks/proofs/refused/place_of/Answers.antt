-- `marks::refused::place_of` meets its contract: inside what is drawn the place of the moment, else the left edge.
use mathlib.Core.Path.{refl}
use native.Mathlib.Omega.{arith}
use borrow.Author.Tests.{le-leb, lt-leb}
use Rattle.marks.specs.Marks.{refused_place}
use Rattle.marks.proofs.refused.place_of.Goals.{else-scale-time-via-then-scale-time+else-since-scale, else-scale-time-via-else-scale-time}
use Rattle.marks.proofs.refused.place_of.Goals as goal

pub returns-then-since-scale : goal.returns-then-since-scale
unfolding refused_place
returns-then-since-scale c =
    rw (le-leb _ _ c.if-scale-time.true, ← c.since.ensures, le-leb _ _ c.if-since-scale.true) c.place.ensures

pub returns : goal.returns
unfolding refused_place
returns c =
    elim c.else-scale-time.branch [
      | else-scale-time-via-then-scale-time+else-since-scale w ↦
          rw (le-leb _ _ w.if-scale-time.true, ← w.since.ensures, lt-leb _ _ w.if-since-scale.false) (record { is = refl; low = omega arith; high = omega arith })
      | else-scale-time-via-else-scale-time w ↦
          rw (lt-leb _ _ w.if-scale-time.false) (record { is = refl; low = omega arith; high = omega arith })
    ]
