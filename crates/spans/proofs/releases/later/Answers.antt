-- `spans::releases::later` meets its contract: by whether the lane is active.
use borrow.Author.Tests.{le-leb, lt-leb}
use mathlib.Core.Path.{refl}
use Rattle.spans.specs.Extents.{later_of}
use Rattle.spans.proofs.releases.later.Goals as goal

pub returns-then-ruling-lane : goal.returns-then-ruling-lane
unfolding later_of
returns-then-ruling-lane c =
    let at-release-of = c in
    let at-if1 = at-release-of in
    let at-ruling = at-if1 in
    rw (← at-ruling.ruling.ensures, le-leb _ _ at-if1.if-ruling-lane.true, ← at-release-of.release_of.ensures) c.max.ensures

pub returns : goal.returns
unfolding later_of
returns c =
    let at-ruling = c in
    rw (← at-ruling.ruling.ensures, lt-leb _ _ c.if-ruling-lane.false) refl
