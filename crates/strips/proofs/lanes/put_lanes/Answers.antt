-- `strips::lanes::put_lanes` meets its contract: lane by lane.
use mathlib.Core.Path.{refl}
use Rattle.text.proofs.Pages.{nothing}
use Rattle.strips.specs.Lanes.{lanes_marks, lanes_kept}
use Rattle.strips.proofs.Laned.{lanes_next}
use borrow.Author.Rules.{rules}
use Rattle.strips.proofs.lanes.put_lanes.Goals as goal

pub loop-lane-init : goal.loop-lane-init
unfolding lanes_marks lanes_kept
loop-lane-init c = (nothing, refl, c.requires.kept_len.0)

pub loop-lane-preserved : goal.loop-lane-preserved
loop-lane-preserved c =
    let n = lanes_next _ _ _ _ _ _ c.loop-lane.lane _ _ c.loop-lane.invariant.0 c.loop-lane.invariant.1 c.put_lane.ensures.written c.put_lane.ensures.kept_after in
    (n.0, n.1, search rules)
