-- `nth_low` meets its contract: the first stretch that reaches past the number has the tick. Rests on the laws of stretches.
use Prim.Native.Nat.{◌+◌, ◌-◌, ◌^◌, ◌≤◌, ◌<◌, min}
use mathlib.Core.Path.{refl, sym, ap, ap₂, ◌∙◌}
use native.Mathlib.Omega.{arith}
use native.Mathlib.Nat.{le_antisymm}
use Rattle.rules.specs.Limits.{count_max}
use Rattle.rules.specs.Search.{how_many}
use Rattle.story.specs.Life.{reach}
use Rattle.story.specs.Kept.{kept_within}
use Rattle.stretches.proofs.LowSteps.{tick_fits, Stepped, step, reach_low, found_low}
use Rattle.stretches.proofs.BelowFloor.{step_owed, step_nth, none_left}
use Rattle.stretches.proofs.low.nth_low.Tie as tie
use Rattle.stretches.proofs.low.nth_low.Lts as lts
use Rattle.stretches.proofs.low.nth_low.Reads as reads
use Rattle.stretches.proofs.low.nth_low.Goals as goal

pub low_of-s-requires : goal.low_of-s-requires
low_of-s-requires c = let s = c in
    let cut = s.requires.owing.film.cut in
    record { lane_nonzero = (s.requires.lane_nonzero.0, s.requires.lane_nonzero.1.0); floor_le_cap = (cut.fit, cut.high) }

pub film_cells-cells-requires : goal.film_cells-cells-requires
film_cells-cells-requires c = c.requires.owing.film

pub till-late-requires : goal.till-late-requires
till-late-requires c = let low = c in record { lower = low.low_of-s.ensures.lower; count_places_value = low.requires.owing.ends }

pub overflow_sub-film : goal.overflow_sub-film
overflow_sub-film c = let cut = c.requires.owing.film.cut in omega (arith, cut.low, cut.fit)

pub pow2-reach-requires : goal.pow2-reach-requires
pow2-reach-requires c = omega (arith, c.requires.owing.film.cut.high)

pub loop-i-init : goal.loop-i-init
unfolding kept_within how_many
loop-i-init c = (omega arith, refl, omega arith, omega arith)

-- a tick of the walk has room
within : (at : lts.At-loop tie.the-claims reads.Pre reads.Post goal.the-invariant-loop-i goal.the-decreases-loop-i tie.handed_clauses) → at.args.at + at.loop-i.i < 2 ^ 64
within at =
    let far = at in
    tick_fits at.args.at at.loop-i.i far.min-end.result far.pow2-reach.result _ at.requires.lane_nonzero.1.1 at.loop-i.invariant.0 far.min-end.ensures far.pow2-reach.ensures.high

pub overflow_add-at : goal.overflow_add-at
overflow_add-at c = record { fits = within c.before }

pub length_at-requires : goal.length_at-requires
length_at-requires c = c.low_of-s.ensures.lower

pub overflow_sub-end : goal.overflow_sub-end
overflow_sub-end c = c.loop-i.invariant.0

pub overflow_add-at-in-loop-i : goal.overflow_add-at-in-loop-i
overflow_add-at-in-loop-i c = record { fits = within c.before.before.before.before }

pub till_at-requires : goal.till_at-requires
till_at-requires c = let low = c in record { lower = low.low_of-s.ensures.lower; count_places_value = low.requires.owing.ends; till = c.till-late.ensures }

pub overflow_add-at-in-loop-i-2 : goal.overflow_add-at-in-loop-i-2
overflow_add-at-in-loop-i-2 c = record { fits = within c.before.before.before.before.before }

pub ticks_at-ticks-requires : goal.ticks_at-ticks-requires
ticks_at-ticks-requires c = c.low_of-s.ensures.lower

-- a step of the loop
stepped : (c : lts.After-ticks_at tie.the-claims reads.Pre reads.Post goal.the-invariant-loop-i goal.the-decreases-loop-i tie.handed_clauses) →
    let at = c in
    let q = c in
    Stepped at.min-end.result at.loop-i.i q.min-length.result q.length_at.result at.loop-i.owed c.ticks_at-ticks.result
stepped c =
    let at = c in
    let q = c in
    let far = at in
    step far.min-end.result at.loop-i.i q.min-length.result q.length_at.result at.loop-i.owed c.ticks_at-ticks.result far.pow2-reach.result _ _
    far.min-end.ensures far.pow2-reach.ensures.high q.min-length.ensures q.length_at.ensures.some q.loop-i-test.true c.ticks_at-ticks.ensures at.loop-i.invariant.2

-- a tick that is found lies within reach
within_reach : (c : lts.Then1 tie.the-claims reads.Pre reads.Post goal.the-invariant-loop-i goal.the-decreases-loop-i tie.handed_clauses) →
    let at = c in
    at.loop-i.i + c.min-length.result ≤ at.pow2-reach.result
within_reach c =
    let far = c in
    reach_low far.min-end.result far.pow2-reach.result _ _ far.min-end.ensures (stepped c.before).room

found : (c : lts.Then1 tie.the-claims reads.Pre reads.Post goal.the-invariant-loop-i goal.the-decreases-loop-i tie.handed_clauses) →
    let at = c in
    at.loop-i.i + (at.args.nth - at.loop-i.owed) ≤ 2 ^ count_max
found c =
    let at = c in
    found_low at.loop-i.i _ at.loop-i.owed c.ticks_at-ticks.result _ _ c.if-nth-owed.true (stepped c.before).part (within_reach c) at.pow2-reach.ensures.high

pub overflow_add-owed : goal.overflow_add-owed
overflow_add-owed c = record { fits = (stepped c).sum_fits }

pub overflow_sub-result : goal.overflow_sub-result
overflow_sub-result c = c.loop-i.invariant.3

pub overflow_add-result : goal.overflow_add-result
overflow_add-result c = record { fits = omega (arith, found c) }

pub returns-then-nth-owed : goal.returns-then-nth-owed
unfolding reach
returns-then-nth-owed c =
    let v = c in
    let at = v in
    let q = v in
    let far = at in
    let cells = far in
    let low = cells in
    let start = low in
    let a = start.args in
    let n = far.pow2-reach in
    let u = stepped v.before in
    record {
      is =
          ap (λ x. at.loop-i.i + (a.nth - x)) at.loop-i.invariant.1
          ∙ step_nth a.t a.lane a.at low.low_of-s.result start.requires.fact start.requires.owing.film low.low_of-s.ensures
          at.loop-i.i q.length_at.result v.till_at.result cells.film_cells-cells.result q.length_at.ensures v.till_at.ensures cells.film_cells-cells.ensures
          q.min-length.result v.ticks_at-ticks.result (reach a.t.film.cap) a.nth u.less v.ticks_at-ticks.ensures (rw n.ensures.is at (within_reach c)) (rw at.loop-i.invariant.1 at at.loop-i.invariant.3) (rw at.loop-i.invariant.1 at c.if-nth-owed.true);
      low = omega arith;
      high = found c;
    }

pub overflow_add-owed-in-loop-i : goal.overflow_add-owed-in-loop-i
overflow_add-owed-in-loop-i c = record { fits = (stepped c.before).sum_fits }

pub overflow_add-i : goal.overflow_add-i
overflow_add-i c = record { fits = (stepped c.before).place_fits }

pub loop-i-smaller : goal.loop-i-smaller
loop-i-smaller c = (stepped c.before).closer

pub loop-i-preserved : goal.loop-i-preserved
loop-i-preserved c =
    let v = c in
    let at = v in
    let q = v in
    let cells = at in
    let low = cells in
    let start = low in
    let a = start.args in
    let u = stepped v.before in (
      u.room,
      ap (λ n. n + v.ticks_at-ticks.result) at.loop-i.invariant.1
          ∙ step_owed a.t a.lane a.at low.low_of-s.result start.requires.fact start.requires.owing.film low.low_of-s.ensures
          at.loop-i.i q.length_at.result v.till_at.result cells.film_cells-cells.result q.length_at.ensures v.till_at.ensures cells.film_cells-cells.ensures
          q.min-length.result v.ticks_at-ticks.result u.less v.ticks_at-ticks.ensures,
      u.few,
      c.if-nth-owed.false,
    )

pub returns : goal.returns
unfolding reach
returns c =
    let at = c in
    let far = at in
    let till = far in
    let low = till in
    let start = low in
    let a = start.args in
    let n = far.pow2-reach in
    let e = le_antisymm at.loop-i.invariant.0 c.loop-i-test.false in
    record {
      is =
          n.ensures.is
          ∙ sym (none_left a.t a.lane a.at low.low_of-s.result start.requires.fact start.requires.owing.film low.low_of-s.ensures till.till-late.result (reach a.t.film.cap) at.loop-i.i a.nth
          till.till-late.ensures (e ∙ far.min-end.ensures ∙ ap₂ min n.ensures.is far.saturating_sub.ensures) (rw at.loop-i.invariant.1 at at.loop-i.invariant.3));
      low = omega arith;
      high = n.ensures.high;
    }
