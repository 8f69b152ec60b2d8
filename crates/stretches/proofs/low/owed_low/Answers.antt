-- `owed_low` meets its contract: the loop's number is that of the ticks passed. Rests on the laws of stretches.
use Prim.Native.Nat.{◌+◌, ◌^◌, ◌<◌, min}
use mathlib.Core.Path.{refl, ap, ap₂, ◌∙◌}
use native.Mathlib.Omega.{arith}
use native.Mathlib.Nat.{le_antisymm}
use Rattle.rules.specs.Search.{how_many}
use Rattle.story.specs.Life.{reach}
use Rattle.story.specs.Kept.{kept_within}
use Rattle.stretches.proofs.LowSteps.{tick_fits, Stepped, step}
use Rattle.stretches.proofs.BelowFloor.{step_owed, all_within}
use Rattle.stretches.proofs.low.owed_low.Tie as tie
use Rattle.stretches.proofs.low.owed_low.Lts as lts
use Rattle.stretches.proofs.low.owed_low.Reads as reads
use Rattle.stretches.proofs.low.owed_low.Goals as goal

pub low_of-s-requires : goal.low_of-s-requires
low_of-s-requires c = let s = c in
    let cut = s.requires.owing.film.cut in
    record { lane_nonzero = (s.requires.lane_nonzero.0, s.requires.lane_nonzero.1.0); floor_le_cap = (cut.fit, cut.high) }

pub film_cells-cells-requires : goal.film_cells-cells-requires
film_cells-cells-requires c = c.requires.owing.film

pub till-late-requires : goal.till-late-requires
till-late-requires c = let low = c in record { lower = low.low_of-s.ensures.lower; count_places_value = low.requires.owing.ends }

pub overflow_sub-film : goal.overflow_sub-film
overflow_sub-film c = let cut = c.requires.owing.film.cut in omega (arith, cut.low, cut.fit)

pub pow2-requires : goal.pow2-requires
pow2-requires c = omega (arith, c.requires.owing.film.cut.high)

pub loop-i-init : goal.loop-i-init
unfolding kept_within how_many
loop-i-init c = (omega arith, refl, omega arith)

-- a tick of the walk has room
within : (at : lts.At-loop tie.the-claims reads.Pre reads.Post goal.the-invariant-loop-i goal.the-decreases-loop-i tie.handed_clauses) → at.args.at + at.loop-i.i < 2 ^ 64
within at =
    let far = at in
    tick_fits at.args.at at.loop-i.i far.min-end.result far.pow2.result _ at.requires.lane_nonzero.1.1 at.loop-i.invariant.0 far.min-end.ensures far.pow2.ensures.high

pub overflow_add-at : goal.overflow_add-at
overflow_add-at c = record { fits = within c.before }

pub length_at-requires : goal.length_at-requires
length_at-requires c = c.low_of-s.ensures.lower

pub overflow_sub-end : goal.overflow_sub-end
overflow_sub-end c = c.loop-i.invariant.0

pub overflow_add-at-in-loop-i : goal.overflow_add-at-in-loop-i
overflow_add-at-in-loop-i c = record { fits = within c.before.before.before.before }

pub till_at-requires : goal.till_at-requires
till_at-requires c = let low = c in record { lower = low.low_of-s.ensures.lower; count_places_value = low.requires.owing.ends; till = c.till-late.ensures }

pub overflow_add-at-in-loop-i-2 : goal.overflow_add-at-in-loop-i-2
overflow_add-at-in-loop-i-2 c = record { fits = within c.before.before.before.before.before }

pub ticks_at-owed-requires : goal.ticks_at-owed-requires
ticks_at-owed-requires c = c.low_of-s.ensures.lower

-- a step of the loop
stepped : (c : lts.After-ticks_at tie.the-claims reads.Pre reads.Post goal.the-invariant-loop-i goal.the-decreases-loop-i tie.handed_clauses) →
    let at = c in
    let q = c in
    Stepped at.min-end.result at.loop-i.i q.min-length.result q.length_at.result at.loop-i.owed c.ticks_at-owed.result
stepped c =
    let at = c in
    let q = c in
    let far = at in
    step far.min-end.result at.loop-i.i q.min-length.result q.length_at.result at.loop-i.owed c.ticks_at-owed.result far.pow2.result _ _
    far.min-end.ensures far.pow2.ensures.high q.min-length.ensures q.length_at.ensures.some q.loop-i-test.true c.ticks_at-owed.ensures at.loop-i.invariant.2

pub overflow_add-owed : goal.overflow_add-owed
overflow_add-owed c = record { fits = (stepped c).sum_fits }

pub overflow_add-i : goal.overflow_add-i
overflow_add-i c = record { fits = (stepped c).place_fits }

pub loop-i-smaller : goal.loop-i-smaller
loop-i-smaller c = (stepped c).closer

pub loop-i-preserved : goal.loop-i-preserved
loop-i-preserved c =
    let at = c in
    let q = c in
    let low = at in
    let cells = at in
    let start = low in
    let a = start.args in
    let u = stepped c in (
      u.room,
      ap (λ n. n + c.ticks_at-owed.result) at.loop-i.invariant.1
          ∙ step_owed a.t a.lane a.at low.low_of-s.result start.requires.fact start.requires.owing.film low.low_of-s.ensures
          at.loop-i.i q.length_at.result c.till_at.result cells.film_cells-cells.result q.length_at.ensures c.till_at.ensures cells.film_cells-cells.ensures q.min-length.result c.ticks_at-owed.result u.less c.ticks_at-owed.ensures,
      u.few,
    )

pub returns : goal.returns
unfolding reach
returns c =
    let at = c in
    let far = at in
    let till = far in
    let low = till in
    let start = low in
    let a = start.args in
    let n = far.pow2 in
    let e = le_antisymm at.loop-i.invariant.0 c.loop-i-test.false in
    at.loop-i.invariant.1
    ∙ all_within a.t a.lane a.at low.low_of-s.result start.requires.fact start.requires.owing.film low.low_of-s.ensures till.till-late.result _ at.loop-i.i
    till.till-late.ensures (e ∙ far.min-end.ensures ∙ ap₂ min n.ensures.is far.saturating_sub.ensures)
