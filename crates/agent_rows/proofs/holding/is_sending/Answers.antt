-- `is_sending` meets its contract: the numbers at the lane's places are within their limits, so that their sum fits.
use Prim.Native.Nat.{◌<◌}
use mathlib.Core.Path.{sym}
use native.Mathlib.Omega.{arith}
use Rattle.rules.specs.Limits.{lane_places}
use Rattle.agent_rows.specs.Packed.{title_from}
use Rattle.agent_rows.proofs.Lanes.{cap_high, sends, dropped_high, owed_high}
use Rattle.agent_rows.proofs.holding.is_sending.Tie as tie
use Rattle.agent_rows.proofs.holding.is_sending.Lts as lts
use Rattle.agent_rows.proofs.holding.is_sending.Reads as reads
use Rattle.agent_rows.proofs.holding.is_sending.Goals as goal

-- the lane has a place in the rows
lane_fits : (c : lts.Start reads.Pre reads.Post tie.handed_clauses) → c.args.lane < lane_places
lane_fits c = omega (arith, cap_high (title_from c.args.row.now c.args.at) c.requires.at_value.0)

pub overflow_add-result-2 : goal.overflow_add-result-2
overflow_add-result-2 c = let f = lane_fits c.before in omega arith

pub offset_bounds-row-at : goal.offset_bounds-row-at
offset_bounds-row-at c = let f = lane_fits c.before in omega arith

pub bounds-row-at : goal.bounds-row-at
bounds-row-at c = let f = lane_fits c.before.before in omega arith

pub overflow_add-result-4 : goal.overflow_add-result-4
overflow_add-result-4 c = let f = lane_fits c.before.before in omega arith

pub offset_bounds-row-at-2 : goal.offset_bounds-row-at-2
offset_bounds-row-at-2 c = let f = lane_fits c.before.before in omega arith

pub bounds-row-at-2 : goal.bounds-row-at-2
bounds-row-at-2 c = let f = lane_fits c.before.before.before in omega arith

pub overflow_add-result-5 : goal.overflow_add-result-5
overflow_add-result-5 c =
    let s = c in
    let a = s.args in
    omega (arith, dropped_high a.row.now a.at a.lane (lane_fits s.before.before.before) s.requires.at_value.0, owed_high a.row.now a.at a.lane (lane_fits s.before.before.before) s.requires.at_value.0)

pub returns : goal.returns
returns c =
    let s = c in
    let a = s.args in
    sym (sends a.row.now a.at a.lane (lane_fits s.before.before.before) a.tick s.requires.at_value.1.0)
