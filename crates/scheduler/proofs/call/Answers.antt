-- `call` meets its contract: what the verdict refuses changes nothing, and the lanes of the next state decide the rest.
use mathlib.Core.Path.{refl, ap, sym, ◌∙◌}
use Rattle.rules.proofs.Told.{some_number}
use Rattle.story.specs.declared.Title.{Title}
use Rattle.story.specs.Kept.{title_at}
use Rattle.story.specs.Story.{sets_count}
use Rattle.story.specs.Next.{with_title, next_title, call_next}
use Rattle.story.specs.Calls.{call_answer}
use Rattle.measures.proofs.Within.{all_readable}
use Rattle.verdicts.specs.Before.{first_answer}
use Rattle.verdicts.proofs.Event.{event_id, event_state, event_time, taken_event}
use Rattle.scheduler.proofs.Taken.{taken_turnable, taken_filmed}
use Rattle.scheduler.proofs.Settled.{with_readable, in_two, then_settled, then_refused}
use Rattle.scheduler.proofs.call.Goals as goal

pub title_of-requires : goal.title_of-requires
title_of-requires c =
    let a = c.args in
    event_id a.s a.e.title a.e.time (taken_event a.s a.e.title a.e.time a.e.act (sym c.in-Ok.ensures))

pub next_title-turned-requires : goal.next_title-turned-requires
next_title-turned-requires c =
    let a = c.args in
    let none = sym c.in-Ok.ensures in
    rw c.title_of.ensures
    record {
      turnable = taken_turnable a.s a.e.title a.e.time a.e.act none;
      time_le_asked_max = event_time a.s a.e.title a.e.time (taken_event a.s a.e.title a.e.time a.e.act none);
    }

pub settle-requires : goal.settle-requires
settle-requires c =
    let a = c.args in
    let none = sym c.in-Ok.ensures in
    let all = all_readable a.s (event_state a.s a.e.title a.e.time (taken_event a.s a.e.title a.e.time a.e.act none)) in
    rw (c.with_title-next.ensures, c.next_title-turned.ensures, c.title_of.ensures)
    record {
      all_readable = with_readable a.s a.e.title a.e.time (next_title (title_at a.s a.e.title) a.e.time a.e.act) all
          (λ _. taken_filmed a.s a.e.title a.e.time a.e.act none);
      pool_value = refl;
    }

pub returns-in-Ok : goal.returns-in-Ok
returns-in-Ok c =
    let a = c.args in
    then_settled (call_answer a.s a.e.title a.e.time a.e.act) (first_answer a.s a.e) (sets_count a.e.act) a.s
    (call_next a.s a.e.title a.e.time a.e.act) a.e.time 0 (in_two a.s a.e.title a.e.time a.e.act) c.in-Ok.ensures refl
    c.sets_count.result c.sets_count.ensures c.with_title-next.result
    (c.with_title-next.ensures
    ∙ ap (λ (t : Title). with_title a.s a.e.title t a.e.time)
    (c.next_title-turned.ensures ∙ ap (λ (t : Title). next_title t a.e.time a.e.act) c.title_of.ensures))
    c.settle.result.answer c.settle.result.state c.settle.ensures.0 c.settle.ensures.1

pub returns-in-Err : goal.returns-in-Err
returns-in-Err c =
    let a = c.args in
    rw c.number.ensures
    (then_refused (call_answer a.s a.e.title a.e.time a.e.act) (first_answer a.s a.e) (sets_count a.e.act) a.s
    (call_next a.s a.e.title a.e.time a.e.act) a.e.time _ (in_two a.s a.e.title a.e.time a.e.act) c.in-Err.ensures
    (some_number c.in-Err.refusal))
