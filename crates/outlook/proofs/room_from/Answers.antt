-- `room_from` meets its contract: an event that only lanes may refuse is tried once, as if it came at its own time.
use Rattle.std.proofs.Common.{◌≡◌, ap, subst, sym, ◌∙◌, arith}
use Rattle.rules.proofs.Told.{some_number}
use Rattle.story.specs.declared.Title.{Title}
use Rattle.story.specs.declared.State.{State}
use Rattle.story.specs.Story.{takes_lanes}
use Rattle.moments.specs.Searched.{AllTimed, Frees}
use Rattle.verdicts.proofs.Event.{event_id, event_time, taken_event}
use Rattle.scheduler.proofs.Taken.{taken_turnable}
use Rattle.outlook.proofs.Freed.{on_clock}
use Rattle.outlook.proofs.Rooms.{taken_timed, next_made, room_refused, room_found, room_now}
use Rattle.outlook.proofs.room_from.Goals as goal

pub title_of-t-requires : goal.title_of-t-requires
title_of-t-requires c =
    let a = c.args in
    event_id a.s a.e.title a.e.time (taken_event a.s a.e.title a.e.time a.e.act (sym c.in-Ok.ensures))

pub next_title-requires : goal.next_title-requires
next_title-requires c =
    let a = c.args in
    let none = sym c.in-Ok.ensures in
    rw c.title_of-t.ensures
    record {
      turnable = taken_turnable a.s a.e.title a.e.time a.e.act none;
      time_le_asked_max = event_time a.s a.e.title a.e.time (taken_event a.s a.e.title a.e.time a.e.act none);
    }

pub with_title-requires : goal.with_title-requires
with_title-requires c =
    let a = c.args in
    event_id a.s a.e.title a.e.time (taken_event a.s a.e.title a.e.time a.e.act (sym c.in-Ok.ensures))

pub free_from-requires : goal.free_from-requires
free_from-requires c =
    let a = c.args in
    let none = sym c.in-Ok.ensures in
    let t = c.title_of-t in
    let made = next_made a.s a.e.title a.e.time a.e.act t.ensures c.next_title.ensures c.with_title.ensures in
    let takes = sym (c.takes_lanes.ensures ∙ ap (λ (t : Title). takes_lanes a.e.act t.count) t.ensures) ∙ c.if-takes_lanes.true in
    record {
      all_timed = subst AllTimed (sym made) (taken_timed a.s a.e.title a.e.time a.e.act none takes);
      from_bound = omega (arith, on_clock a.s a.e.title a.e.time (taken_event a.s a.e.title a.e.time a.e.act none));
    }

pub returns-then-takes_lanes : goal.returns-then-takes_lanes
returns-then-takes_lanes c =
    let a = c.args in
    let t = c.title_of-t in
    let made = next_made a.s a.e.title a.e.time a.e.act t.ensures c.next_title.ensures c.with_title.ensures in
    let takes = sym (c.takes_lanes.ensures ∙ ap (λ (t : Title). takes_lanes a.e.act t.count) t.ensures) ∙ c.if-takes_lanes.true in
    room_found a.s a.e (sym c.in-Ok.ensures) takes (subst (λ (z : State). Frees z a.e.time c.free_from.result) made c.free_from.ensures)

pub returns : goal.returns
returns c =
    let a = c.args in
    let none = sym c.in-Ok.ensures in
    let takes = sym (c.takes_lanes.ensures ∙ ap (λ (t : Title). takes_lanes a.e.act t.count) c.title_of-t.ensures) ∙ c.if-takes_lanes.false in
    room_now a.s a.e none takes (omega (arith, on_clock a.s a.e.title a.e.time (taken_event a.s a.e.title a.e.time a.e.act none)))

pub returns-in_default : goal.returns-in_default
returns-in_default c =
    let a = c.args in
    room_refused a.s a.e (λ e. some_number c.in_default.field-0 (c.in_default.ensures ∙ e))
