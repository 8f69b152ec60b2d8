-- `log_boxes::draw::draw_into` meets its contract: the places, and the picture over them.
use mathlib.Core.Path.{ap, ◌∙◌}
use native.Mathlib.Omega.{arith}
use lib.ListN.{length}
use Rattle.notice.specs.Log.{Bytes}
use Rattle.text.proofs.Pages.{told_as}
use Rattle.plans.proofs.Row.{written_length}
use Rattle.log_boxes.proofs.Standing.{time_in, granted, filmed, cells_high, picture_is}
use Rattle.log_boxes.proofs.draw.draw_into.Goals as goal

pub tick-requires : goal.tick-requires
tick-requires c = let known = c in
    let start = known in
    let small : Bytes start.args.log.now = λ j. omega (arith, known.shared_slice_known-1.given j) in
    let f = filmed _ _ _ _ small start.requires.box_stands.granted _ start.requires.box_stands in
    record { length = f.sized; floor_cap = f.cut }

pub put_picture-requires : goal.put_picture-requires
put_picture-requires c = let at_tick = c in
    let at_take = at_tick in
    let known = at_take in
    let start = known in
    let small : Bytes start.args.log.now = λ j. omega (arith, known.shared_slice_known-1.given j) in
    let w = start.requires.box_stands in
    let f = filmed _ _ _ _ small w.granted _ w in record {
      moment_le_asked_max = (
        time_in _ _ _ (granted _ _ _ _ w.granted).limits,
        omega (arith, at_tick.tick.ensures.high, f.sized.high),
        f.cut.high,
      );
      taken_len_bound = omega (arith, ap length at_take.take_places.ensures ∙ written_length _ _ _, start.requires.box_rooms.places_long, cells_high _ _ _ _ small w.granted _ w);
    }

pub returns : goal.returns
returns c =
    let small : Bytes c.args.log.now = λ j. omega (arith, c.shared_slice_known-1.given j) in
    let w = c.requires.box_stands in
    told_as (picture_is _ _ _ _ small w.granted _ w _ _ _ c.requires.box_rooms.places_long c.take_places.ensures c.tick.ensures.is) c.put_picture.ensures
