-- `drop_lanes` meets its contract: the loop has the title with the lanes passed dropped, whose film and ends are as before.
use mathlib.Core.Path.{sym, ◌∙◌}
use native.Mathlib.Omega.{arith}
use native.Mathlib.Numerals.{add-one}
use Rattle.story.specs.Next.{drop_lanes}
use Rattle.owed.proofs.Fixed.{fixed_drops, fixed_owing, drop_below, drop_more, drop_past}
use Rattle.owed.proofs.dropping.drop_lanes.Goals as goal

pub loop-lane-init : goal.loop-lane-init
unfolding drop_lanes
loop-lane-init c = sym (drop_below c.args.t c.args.tick c.args.count c.args.count (omega arith))

pub drop_lane-q-requires : goal.drop_lane-q-requires
drop_lane-q-requires c =
    let a = c in
    let l = c.loop-lane in
    let f = fixed_drops a.args.t a.args.tick a.args.count l.lane in
    rw l.invariant (record {
      owing = fixed_owing a.args.t (drop_lanes a.args.t a.args.tick a.args.count l.lane) f a.requires.owing;
      lane_lt_cap = (rw f.film (omega arith), a.requires.count_le_cap.1);
    })

pub loop-lane-preserved : goal.loop-lane-preserved
loop-lane-preserved c =
    let a = c in
    let l = c.loop-lane in
    rw add-one (c.drop_lane-q.ensures ∙ drop_more a.args.t l.q a.args.tick a.args.count l.lane l.invariant l.auto.lane c.loop-lane-test.true)

pub returns : goal.returns
returns c =
    let l = c.loop-lane in
    let a = c.args in
    l.invariant ∙ drop_past a.t a.tick a.count l.lane c.loop-lane-test.false
