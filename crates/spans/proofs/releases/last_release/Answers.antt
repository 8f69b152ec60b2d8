-- `spans::releases::last_release` meets its contract: lane by lane.
use mathlib.Core.Path.{refl, ap, ◌∙◌}
use native.Mathlib.Omega.{arith}
use native.Mathlib.Numerals.{add-one}
use native.Mathlib.Nat.{le_antisymm}
use Rattle.spans.specs.Extents.{released_to}
use Rattle.spans.proofs.releases.last_release.Goals as goal

pub tick-tick-requires : goal.tick-tick-requires
tick-tick-requires c = record { length = c.requires.film.sized; floor_cap = c.requires.film.cut }

pub loop-lane-init : goal.loop-lane-init
unfolding released_to
loop-lane-init c = refl

pub later-moment-requires : goal.later-moment-requires
later-moment-requires c = let at-loop = c in
    let at_tick = at-loop in
    let at_start = at_tick in
    let film = at_start.requires.film in
    let tick = at_tick.tick-tick.ensures in
    record { timed = at_start.requires; lane_lt_count_max = (omega (arith, film.cut.high, c.loop-lane-test.true), (tick.is, omega (arith, tick.high, film.sized.high))) }

pub loop-lane-preserved : goal.loop-lane-preserved
unfolding released_to
loop-lane-preserved c =
    let at-loop-test = c in
    let at-loop = at-loop-test in
    rw (add-one, ← at-loop.loop-lane.invariant) c.later-moment.ensures

pub returns : goal.returns
returns c =
    let at-loop = c in
    let at_start = at-loop in
    let all = le_antisymm (omega arith) c.loop-lane-test.false in
    at-loop.loop-lane.invariant ∙ ap (released_to at_start.args.t) all
