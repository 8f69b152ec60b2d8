-- `lanes_release` meets its contract: the loop's moment is the soonest of the lanes passed.
use mathlib.Core.Path.{ap, ◌∙◌}
use native.Mathlib.Omega.{arith}
use native.Mathlib.Numerals.{add-one}
use native.Mathlib.Nat.{le_antisymm}
use Rattle.moments.specs.inner.Steps.{lanes_release}
use borrow.Author.Rules.{rules}
use Rattle.moments.proofs.releases.lanes_release.Goals as goal

pub tick-tick-requires : goal.tick-tick-requires
tick-tick-requires c = record { length = c.requires.film.sized; floor_cap = c.requires.film.cut }

pub loop-lane-init : goal.loop-lane-init
unfolding lanes_release
loop-lane-init c = search rules

pub release_of-requires : goal.release_of-requires
release_of-requires c = let film = c.requires.film in
    let tick = c.tick-tick.ensures in
    record { timed = c.requires; lane_lt_count_max = (omega (arith, film.cut.high), (tick.is, omega (arith, tick.high, film.sized.high))) }

pub loop-lane-preserved : goal.loop-lane-preserved
unfolding lanes_release
loop-lane-preserved c = rw (add-one, ← c.loop-lane.invariant, ← c.release_of.ensures) c.sooner-r.ensures

pub returns : goal.returns
returns c =
    let all = le_antisymm c.loop-lane.auto.lane-end c.loop-lane-test.false in
    c.loop-lane.invariant ∙ ap (lanes_release _ _ _) all
