-- `till` meets its contract: the loop's number is that of the counts passed.
use Prim.Native.Nat.{suc, ◌-◌, ◌*◌, ◌^◌, ◌≤◌}
use mathlib.Core.Path.{◌≡◌}
use native.Mathlib.Omega.{arith}
use native.Mathlib.Numerals.{add-one}
use native.Mathlib.Nat.{le_antisymm}
use lib.Dec.{leb}
use Rattle.rules.specs.Limits.{count_places}
use Rattle.rules.specs.Refusals.{pick}
use Rattle.grid.specs.Ticks.{slot as slot_of}
use Rattle.measures.proofs.Within.{in_row}
use Rattle.stretches.specs.inner.Low.{span_by}
use Rattle.stretches.proofs.LatestBoxes.{most_yet, most_more}
use Rattle.stretches.proofs.LowSlots.{span_wide, span_low}
use Rattle.stretches.proofs.LowSteps.{width_high, own_high}
use Rattle.stretches.proofs.Steps.{small}
use Rattle.stretches.proofs.low.till.Tie as tie
use Rattle.stretches.proofs.low.till.Lts as lts
use Rattle.stretches.proofs.low.till.Reads as reads
use Rattle.stretches.proofs.low.till.Goals as goal

pub overflow_mul-long : goal.overflow_mul-long
overflow_mul-long c =
    let s = c in
    record { fits = omega (arith, small s.args.s.width s.args.s.own (omega (arith, width_high s.args.s s.requires.lower)) (own_high s.args.s s.requires.lower)) }

pub overflow_mul-short : goal.overflow_mul-short
overflow_mul-short c =
    let s = c in
    let q = c.pow2 in
    record { fits = omega (arith, small s.args.s.width q.result (omega (arith, width_high s.args.s s.requires.lower)) q.ensures.high) }

pub loop-count-init : goal.loop-count-init
loop-count-init c = most_yet _ _ _ _ (omega arith)

-- the span is the definition's
span_is : (c : lts.After-span_by tie.the-claims reads.Pre reads.Post goal.the-invariant-loop-count goal.the-decreases-loop-count tie.handed_clauses) →
    let a = c.args in
    c.span_by.result ≡ span_by a.s.floor a.s.cap a.s.lane a.left c.loop-count.count
unfolding span_by
span_is c =
    let s = c in
    rw (c.slot-width.ensures.is, c.pow2.ensures.is, s.requires.lower.wide, s.requires.lower.owns) at c.span_by.ensures

-- and no shorter than the count's slot
wide : (c : lts.After-span_by tie.the-claims reads.Pre reads.Post goal.the-invariant-loop-count goal.the-decreases-loop-count tie.handed_clauses) → c.slot-width.result ≤ c.span_by.result
wide c =
    let l = c.loop-count in
    let a = c.args in
    omega (arith, c.slot-width.ensures.is, span_is c, span_wide a.s.floor a.s.cap a.s.lane a.left l.count l.auto.count (omega arith))

pub overflow_sub-span_by : goal.overflow_sub-span_by
overflow_sub-span_by c = wide c.before

pub moved-requires : goal.moved-requires
moved-requires c =
    let s = c in
    let k = c.loop-count.count in
    let q = c.pow2 in
    let w = s.args.s.width in
    let n = width_high s.args.s s.requires.lower in
    omega (
      arith,
      in_row s.args.ends.now count_places k s.requires.count_places_value (omega (arith, s.requires.lower.high, c.loop-count-test.true)),
      span_low s.args.left c.slot-width.result (w * s.args.s.own) (w * q.result) (2 ^ 25)
          (small w s.args.s.own (omega (arith, n)) (own_high s.args.s s.requires.lower)) (small w q.result (omega (arith, n)) q.ensures.high),
      c.span_by.ensures,
    )

pub loop-count-preserved : goal.loop-count-preserved
loop-count-preserved c =
    let v = c in
    let at = v in
    let s = at in
    let a = s.args in
    let k = at.loop-count.count in
    let q = at.pow2.result in
    let e = rw (v.span_by.ensures, v.slot-width.ensures.is) at c.moved.ensures in
    rw (add-one k, c.max-most.ensures)
    (most_more a.ends.now (λ c. pick (leb a.left (slot_of a.s.cap c)) (a.s.width * a.s.own) (a.s.width * q) - slot_of a.s.cap c) a.s.floor k at.loop-count.most c.moved.result at.loop-count.auto.count at.loop-count.invariant e)

pub returns : goal.returns
unfolding span_by
returns c =
    let l = c.loop-count in
    let s = c in
    let all : l.count ≡ suc s.args.s.cap = le_antisymm (omega (arith, l.auto.count-end)) (omega arith) in
    rw (all, c.pow2.ensures.is, s.requires.lower.wide, s.requires.lower.owns) at l.invariant
