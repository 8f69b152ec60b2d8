-- `sending_tick` meets its contract: the drop, and how far from it the tick lies whose turn it is.
use Prim.Native.Nat.{◌≤◌}
use native.Mathlib.Omega.{arith}
use lib.ListN.{get_or}
use Rattle.rules.specs.Limits.{asked_max, lane_places}
use Rattle.story.specs.Kept.{sending_tick}
use Rattle.measures.proofs.Within.{in_row}
use Rattle.owed.proofs.sending.sending_tick.Tie as tie
use Rattle.owed.proofs.sending.sending_tick.Lts as lts
use Rattle.owed.proofs.sending.sending_tick.Reads as reads
use Rattle.owed.proofs.sending.sending_tick.Goals as goal

dropped_low : (a : lts.Start tie.the-claims reads.Pre reads.Post tie.handed_clauses) → get_or a.args.t.dropped a.args.lane 0 ≤ asked_max
dropped_low a = in_row a.args.t.dropped lane_places a.args.lane a.requires.sending.dropped (omega (arith, a.requires.sending.owing.film.cut.high))

pub offset_bounds-t-lane : goal.offset_bounds-t-lane
offset_bounds-t-lane c = omega (arith, c.requires.sending.owing.film.cut.high)

pub bounds-t-lane : goal.bounds-t-lane
bounds-t-lane c = omega (arith, c.requires.sending.owing.film.cut.high)

pub saturating_sub-requires : goal.saturating_sub-requires
saturating_sub-requires c = tt

pub nth_owed-requires : goal.nth_owed-requires
nth_owed-requires c = record { owing = c.requires.sending.owing; lane_lt_cap = (c.requires.lane_lt_cap, dropped_low c.before.before) }

pub overflow_add-result : goal.overflow_add-result
overflow_add-result c = omega (arith, dropped_low c.before.before.before)

pub returns : goal.returns
unfolding sending_tick
returns c =
    record
    { is = simp (← c.saturating_sub.ensures, ← c.nth_owed.ensures.is); low = omega arith; high = omega (arith, dropped_low c.before.before.before) }
