-- `nth_owed` meets its contract: each kind of lane has its own way.
use native.Mathlib.Omega.{arith}
use Rattle.owed.proofs.sending.nth_owed.Goals as goal

pub nth_steady-requires : goal.nth_steady-requires
nth_steady-requires c = let s = c in record { owing = s.requires.owing; lane_lt_cap = s.requires.lane_lt_cap; kind_value = c.if-t-eq-STEADY.true }

pub nth_low-requires : goal.nth_low-requires
nth_low-requires c = let e = c in
    let s = e in
    record { owing = s.requires.owing; lane_nonzero = (omega (arith, c.if-lane-eq0.false), (c.if-t-lane.false, s.requires.lane_lt_cap.1)); fact = e.if-t-eq-STEADY.false }

pub returns-then-t-eq-STEADY : goal.returns-then-t-eq-STEADY
returns-then-t-eq-STEADY c = c.nth_steady.ensures

pub nth_up-requires : goal.nth_up-requires
nth_up-requires c = let s = c in record { owing = s.requires.owing; lane_lt_cap = s.requires.lane_lt_cap }

pub returns-then-t-lane : goal.returns-then-t-lane
returns-then-t-lane c = c.nth_up.ensures

pub nth_by_ticks-requires : goal.nth_by_ticks-requires
nth_by_ticks-requires c = let s = c in record { owing = s.requires.owing; lane_lt_cap = s.requires.lane_lt_cap }

pub returns-then-lane-eq0 : goal.returns-then-lane-eq0
returns-then-lane-eq0 c = c.nth_by_ticks.ensures

pub returns : goal.returns
returns c = c.nth_low.ensures
