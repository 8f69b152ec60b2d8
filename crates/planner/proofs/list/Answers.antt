-- `list` meets its contract: each way out settles answer and rows.
use mathlib.Core.Path.{ap, ◌∙◌}
use Prim.Native.Nat.{ℕ, min}
use lib.ListN.{length}
use Rattle.wishes.proofs.Wished.{all_wished}
use Rattle.planner.proofs.Answers.{stands}
use Rattle.planner.proofs.Lists.{all_fit, short_rows, too_late, all_written}
use Rattle.planner.proofs.list.Goals as goal

pub wishes_of-w-requires : goal.wishes_of-w-requires
wishes_of-w-requires c = let start = c in
    let a = start.args in
    let g = stands a.s a.time a.rates.now start.requires.0 in
    record { s_value = g.state; rates_len = (start.requires.1, (g.rated, g.floors)) }

pub returns-then-room-many : goal.returns-then-room-many
returns-then-room-many c =
    let tested = c in
    let wished = tested in
    let start = wished in
    let a = start.args in
    let w = wished.wishes_of-w in
    short_rows
    a.s
    a.rates.now
    w.result
    w.ensures.result_value
    a.time
    a.ids.now
    a.times.now
    a.counts.now
    start.requires.0
    start.requires.1
    c.refused.result.answer
    c.refused.result.many
    c.refused.ensures.0
    c.refused.ensures.1
    (rw (tested.min-room.ensures ∙ ap (λ (n : ℕ). min (length a.ids.now) n) tested.min.ensures) at tested.if-room-many.true)

pub times_of-t-requires : goal.times_of-t-requires
times_of-t-requires c = let wished = c in
    let start = wished in
    let a = start.args in
    let w = wished.wishes_of-w in
    let g = stands a.s a.time a.rates.now start.requires.0 in
    let all = all_wished a.s a.rates.now g.state (start.requires.1, (g.rated, g.floors)) in
    record { s_value = g.state; wishes_fit = all_fit a.s a.rates.now w.result w.ensures.result_value all; time_le_event_time_max = (g.time, w.ensures.many_le_titles_max) }

pub returns-then-t-gt-EVENT_TIME_MAX : goal.returns-then-t-gt-EVENT_TIME_MAX
returns-then-t-gt-EVENT_TIME_MAX c =
    let late = c in
    let timed = late in
    let wished = timed in
    let start = wished in
    let a = start.args in
    let w = wished.wishes_of-w in
    too_late
    a.s
    a.rates.now
    w.result
    w.ensures.result_value
    a.time
    a.ids.now
    a.times.now
    a.counts.now
    start.requires.0
    start.requires.1
    timed.times_of-t.result
    timed.times_of-t.ensures
    (rw (timed.min-room.ensures ∙ ap (λ (n : ℕ). min (length a.ids.now) n) timed.min.ensures) at timed.if-room-many.false)
    c.refused-then-t-gt-EVENT_TIME_MAX.result.answer
    c.refused-then-t-gt-EVENT_TIME_MAX.result.many
    c.refused-then-t-gt-EVENT_TIME_MAX.ensures.0
    c.refused-then-t-gt-EVENT_TIME_MAX.ensures.1
    late.if-t-gt-EVENT_TIME_MAX.true

pub returns : goal.returns
returns c =
    let third = c in
    let second = third in
    let first = second in
    let in_clock = first in
    let timed = in_clock in
    let wished = timed in
    let start = wished in
    let a = start.args in
    let w = wished.wishes_of-w in
    all_written
    a.s
    a.rates.now
    w.result
    w.ensures.result_value
    a.time
    a.ids.now
    a.times.now
    a.counts.now
    start.requires.0
    start.requires.1
    timed.times_of-t.result
    timed.times_of-t.ensures
    (rw (timed.min-room.ensures ∙ ap (λ (n : ℕ). min (length a.ids.now) n) timed.min.ensures) at timed.if-room-many.false)
    _
    _
    _
    in_clock.if-t-gt-EVENT_TIME_MAX.false
    first.write.ensures
    second.write-2.ensures
    third.write-3.ensures
