-- `latest_above` meets its contract: the loop's numbers are those of the counts passed.
use Prim.Native.Nat.{suc, ◌≤◌}
use mathlib.Core.Path.{◌≡◌, ap, ◌∙◌}
use native.Mathlib.Omega.{arith}
use native.Mathlib.Numerals.{add-one}
use Rattle.rules.specs.Limits.{count_places}
use Rattle.grid.specs.Ticks.{slot as slot_of}
use Rattle.measures.proofs.Within.{in_row}
use Rattle.stretches.proofs.LatestBoxes.{latest_yet, latest_more}
use Rattle.stretches.proofs.Slots.{slot_less}
use Rattle.stretches.proofs.latest.latest_above.Tie as tie
use Rattle.stretches.proofs.latest.latest_above.Lts as lts
use Rattle.stretches.proofs.latest.latest_above.Reads as reads
use Rattle.stretches.proofs.latest.latest_above.Goals as goal

pub loop-count-init : goal.loop-count-init
loop-count-init c = (omega arith, latest_yet _ _ _)

-- the slot of the lane, and that of a count above it
wide : (c : lts.After-slot2 tie.the-claims reads.Pre reads.Post goal.the-invariant-loop-count goal.the-decreases-loop-count tie.handed_clauses) →
    let a = c.args in
    (c.slot-width.result ≡ slot_of a.cap (suc a.lane)) × (c.slot.result ≤ c.slot-width.result)
wide c =
    let a = c.args in
    let k = c.loop-count.count in
    let e = c.slot-width.ensures.is ∙ ap (slot_of a.cap) (add-one a.lane) in
    (e, omega (arith, e, c.slot.ensures.is, slot_less a.cap (suc a.lane) k c.loop-count.invariant.0 (omega arith)))

pub overflow_sub-width : goal.overflow_sub-width
overflow_sub-width c = (wide c.before).1

pub moved-requires : goal.moved-requires
moved-requires c =
    let s = c in
    let k = c.loop-count.count in
    omega (arith, in_row s.args.ends.now count_places k s.requires.count_places_value (omega (arith, s.requires.lane_lt_cap.1, c.loop-count-test.true)), c.slot-width.ensures.high)

pub loop-count-preserved : goal.loop-count-preserved
loop-count-preserved c =
    let at = c in
    let a = at.args in
    let k = at.loop-count.count in
    let v = c in
    let m = c.moved in
    let w = (wide v.before.before.before.before).0 in
    let e = rw (w, v.slot.ensures.is) at m.ensures in (
      omega arith,
      rw (add-one k, c.max-until.ensures, c.max-end.ensures)
          (latest_more a.ends.now a.cap a.lane k at.loop-count.until at.loop-count.end m.result at.loop-count.invariant.0 at.loop-count.invariant.1 e),
    )

pub returns : goal.returns
returns c =
    let l = c.loop-count in
    let all : l.count ≡ suc c.args.cap = omega arith in
    rw (← all) l.invariant.1
