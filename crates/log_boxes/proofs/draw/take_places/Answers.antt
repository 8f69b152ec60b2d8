-- `log_boxes::draw::take_places` meets its contract: the numbers filled in, and the places taken from them.
use mathlib.Core.Path.{ap, ◌∙◌}
use native.Mathlib.Omega.{arith}
use lib.ListN.{length}
use Rattle.notice.specs.Log.{Bytes}
use Rattle.plans.proofs.Row.{written_length}
use Rattle.log_boxes.proofs.Standing.{given_in, time_in, granted, filmed, filled_in, places_are}
use Rattle.log_boxes.proofs.draw.take_places.Goals as goal

pub tick-tick-requires : goal.tick-tick-requires
tick-tick-requires c = let known = c in
    let start = known in
    let small : Bytes start.args.log.now = λ j. omega (arith, known.shared_slice_known-1.given j) in
    let f = filmed _ _ _ _ small start.requires.box_stands.granted _ start.requires.box_stands in
    record { length = f.sized; floor_cap = f.cut }

pub tick_at-requires : goal.tick_at-requires
tick_at-requires c =
    let known = c in
    let start = known in
    let small : Bytes start.args.log.now = λ j. omega (arith, known.shared_slice_known-1.given j) in
    filmed _ _ _ _ small start.requires.box_stands.granted _ start.requires.box_stands

pub pow2-requires : goal.pow2-requires
pow2-requires c =
    let known = c in
    let start = known in
    let small : Bytes start.args.log.now = λ j. omega (arith, known.shared_slice_known-1.given j) in
    (filmed _ _ _ _ small start.requires.box_stands.granted _ start.requires.box_stands).cut.high

pub fill-requires : goal.fill-requires
fill-requires c = let at_cells = c in
    let at_start = at_cells in
    let start = at_start in
    let limits = (granted _ _ _ _ start.requires.box_stands.granted).limits in
    let many = at_cells.pow2.ensures in
    let long = start.requires.box_rooms.numbers_long in record { title_value = given_in _ _ _ limits; row_to_fill = record { soon = omega (arith, at_start.tick_at.ensures.high, time_in _ _ _ limits); short = omega (arith, many.is, many.high, long) }; whole_ticks = record { some = many.low; few = many.high; long = omega (arith, many.is, long) } }

pub take_all-requires : goal.take_all-requires
take_all-requires c = let at_fill_lem = c in
    let at_cells = at_fill_lem in
    let at_start = at_cells in
    let at_tick = at_start in
    let known = at_tick in
    let start = known in
    let small : Bytes start.args.log.now = λ j. omega (arith, known.shared_slice_known-1.given j) in
    let w = start.requires.box_stands in
    let many = at_cells.pow2.ensures in
    let rooms = start.requires.box_rooms in
    let f = filmed _ _ _ _ small w.granted _ w in
    let is = filled_in _ _ _ _ small w.granted _ w _ _ at_start.tick_at.ensures.is many.is _ _ _ at_fill_lem.fill.ensures in record { numbers_bound = omega (arith, ap length is ∙ written_length _ _ _, rooms.numbers_long, many.is, many.high); tick_in_bounds = omega (arith, at_tick.tick-tick.ensures.high, f.sized.high); taken_bound = omega (arith, rooms.places_long, many.is, many.high) }

pub returns : goal.returns
returns c =
    let at_take = c in
    let at_fill_lem = at_take in
    let at_cells = at_fill_lem in
    let at_start = at_cells in
    let at_tick = at_start in
    let known = at_tick in
    let start = known in
    let small : Bytes start.args.log.now = λ j. omega (arith, known.shared_slice_known-1.given j) in
    let w = start.requires.box_stands in
    let many = at_cells.pow2.ensures in
    let is = filled_in _ _ _ _ small w.granted _ w _ _ at_start.tick_at.ensures.is many.is _ _ _ at_fill_lem.fill.ensures in
    at_take.take_all.ensures ∙ places_are _ _ _ _ small w.granted _ w _ _ _ _ _ start.requires.box_rooms.numbers_long is at_tick.tick-tick.ensures.is
