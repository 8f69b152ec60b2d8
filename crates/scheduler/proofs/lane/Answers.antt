-- `lane` meets its contract: a lane that is told has a film, and its cell can be sent.
use mathlib.Core.Path.{sym}
use native.Mathlib.Omega.{arith}
use Rattle.questions.proofs.Lane.{lane_id, lane_time, lane_film, lane_sending, lane_capped}
use Rattle.scheduler.proofs.lane.Goals as goal

pub title_of-t-requires : goal.title_of-t-requires
title_of-t-requires c = let a = c.args in lane_id a.s a.id a.lane a.time (sym c.in-Ok.ensures)

pub tick_at-requires : goal.tick_at-requires
tick_at-requires c = let a = c.args in rw c.title_of-t.ensures (lane_film a.s a.id a.lane a.time (sym c.in-Ok.ensures))

pub shows-requires : goal.shows-requires
shows-requires c =
    let a = c.args in
    let none = sym c.in-Ok.ensures in
    let early = lane_time a.s a.id a.lane a.time none in
    rw c.title_of-t.ensures
    record {
      sending = lane_sending a.s a.id a.lane a.time none;
      lane_lt_cap = (lane_capped a.s a.id a.lane a.time none, omega (arith, c.tick_at.ensures.high));
    }
