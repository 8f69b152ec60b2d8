-- `log_boxes::draw::draw` meets its contract: over rooms of its own.
use mathlib.Core.Path.{sym, ap, ◌∙◌}
use native.Mathlib.Omega.{arith}
use lib.Seq.{length-take-le}
use Prim.Native.Nat.{◌*◌}
use Rattle.rules.specs.Limits.{lane_places}
use Rattle.notice.specs.Log.{Bytes}
use Rattle.log_boxes.proofs.Standing.{given_in, granted, stands, filmed}
use Rattle.log_boxes.proofs.draw.draw.Goals as goal

pub end_of-end-requires : goal.end_of-end-requires
end_of-end-requires c = given_in _ _ _ (granted _ _ _ _ c.requires).limits

pub pow2-cells-requires : goal.pow2-cells-requires
pow2-cells-requires c =
    let at_end = c in
    let known = at_end in
    let start = known in
    let small : Bytes start.args.log.now = λ j. omega (arith, known.shared_slice_known-1.given j) in
    (filmed _ _ _ _ small start.requires _ (stands _ _ _ _ _ at_end.end_of-end.ensures start.requires)).cut.high

pub slice_bounds-draw_into-end : goal.slice_bounds-draw_into-end
slice_bounds-draw_into-end c =
    let at-blank = c in
    let many = at-blank.pow2-cells.ensures in
    sym (length-take-le _ _ (omega (arith, at-blank.blank_numbers-numbers.ensures, many.high)))

pub slice_bounds-draw_into-end-2 : goal.slice_bounds-draw_into-end-2
slice_bounds-draw_into-end-2 c =
    let at-blank = c in
    let many = at-blank.pow2-cells.ensures in
    sym (length-take-le _ _ (omega (arith, at-blank.blank_places-places.ensures, many.high)))

pub draw_into-requires : goal.draw_into-requires
draw_into-requires c = let at_places = c in
    let at-numbers = at_places in
    let at_cells = at-numbers in
    let at_end = at_cells in
    let start = at_end in
    let many = at_cells.pow2-cells.ensures in record {
      box_stands = stands _ _ _ _ _ at_end.end_of-end.ensures start.requires;
      box_rooms = record {
        numbers_long = length-take-le _ _ (omega (arith, at-numbers.blank_numbers-numbers.ensures, many.high)) ∙ ap (λ n. n * lane_places) many.is;
        places_long = length-take-le _ _ (omega (arith, at_places.blank_places-places.ensures, many.high)) ∙ many.is;
      };
    }
