-- `owes_else` meets its contract: each kind of lane has its own way.
use native.Mathlib.Omega.{arith}
use Rattle.owed.proofs.owing.owes_else.Goals as goal

pub owes_steady-requires : goal.owes_steady-requires
owes_steady-requires c = let s = c in record { owing = s.requires.owing; lane_lt_cap = s.requires.lane_lt_cap; kind_value = c.if-t-eq-STEADY.true }

pub returns-then-t-eq-STEADY : goal.returns-then-t-eq-STEADY
returns-then-t-eq-STEADY c = c.owes_steady.ensures

pub reach-requires : goal.reach-requires
reach-requires c = c.requires.owing

pub owed_within-requires : goal.owed_within-requires
owed_within-requires c = let s = c in
    record { owing = s.requires.owing; lane_lt_cap = (s.requires.lane_lt_cap.0, omega (arith, s.requires.lane_lt_cap.1, c.reach.ensures.high)) }

pub returns-then-t-lane : goal.returns-then-t-lane
returns-then-t-lane c = rw (← c.reach.ensures.is) c.owed_within.ensures.is

pub owes_first-requires : goal.owes_first-requires
owes_first-requires c = let e = c in
    let s = e in
    record { owing = s.requires.owing; at_le_asked_max = (s.requires.lane_lt_cap.1, e.if-t-eq-STEADY.false) }

pub returns-then-lane-eq0 : goal.returns-then-lane-eq0
returns-then-lane-eq0 c = rw c.if-lane-eq0.true c.owes_first.ensures

pub owed_low-requires : goal.owed_low-requires
owed_low-requires c = let e = c in
    let s = e in
    record { owing = s.requires.owing; lane_nonzero = (omega (arith, c.if-lane-eq0.false), (c.if-t-lane.false, s.requires.lane_lt_cap.1)); fact = e.if-t-eq-STEADY.false }

pub returns : goal.returns
returns c = c.owed_low.ensures
