-- `box_charts::marks::mark_area` meets its contract: its corner and sizes, each from two places.
use Rattle.box_charts.proofs.Sizes.{area_is}
use Rattle.box_charts.proofs.marks.mark_area.Goals as goal

pub returns : goal.returns
returns c =
    let at_top = c in
    let at_width = at_top in
    area_is _ _ _ _ _ _ _ _ _ at_width.x_of-end.ensures.0 at_width.x_of.ensures.0 at_width.mark_size-width.ensures at_top.y_of-top.ensures.0 c.y_of.ensures.0 c.mark_size-height.ensures
