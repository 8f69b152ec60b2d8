-- `turn` meets its contract: what its title refuses changes nothing, and the lanes decide the rest.
use Rattle.std.proofs.Common.{◌≡◌, refl, sym, ap, ◌∙◌}
use lib.Dec.{eqb}
use Rattle.rules.specs.Refusals.{pick}
use Rattle.rules.specs.Told.{told}
use Rattle.rules.proofs.Told.{some_number, told_err}
use Rattle.rules.proofs.Tests.{both_l}
use Rattle.story.specs.declared.Title.{Title}
use Rattle.story.specs.Kept.{title_at}
use Rattle.story.specs.Story.{sets_count}
use Rattle.story.specs.Next.{with_title, next_title}
use Rattle.verdicts.proofs.Event.{event_id, event_time, event_title}
use Rattle.scheduler.specs.Outcomes.{settled_answer}
use Rattle.scheduler.proofs.Taken.{taken_turnable, taken_filmed}
use Rattle.agent_rows.specs.Packed.{packed, unpacked, with_state}
use Rattle.row_calls.proofs.Rows.{by_title, by_lanes, by_first}
use Rattle.row_calls.proofs.events.turn.Goals as goal

pub title_verdict-requires : goal.title_verdict-requires
title_verdict-requires c =
    let a = c.args in
    rw c.title_at-t.ensures (event_title (unpacked a.row.now).state a.id a.time (both_l _ _ c.requires.timely.numbers))

pub returns-in_err-title_verdict-clause-value : goal.returns-in_err-title_verdict-clause-value
returns-in_err-title_verdict-clause-value c =
    let a = c.args in
    let s = (unpacked a.row.now).state in
    let refused = c.in_err-title_verdict.field-0.0 in
    let first = by_title s a.id a.time a.act _ _ c.in_err-title_verdict.ensures c.title_at-t.ensures
    c.requires.timely.numbers c.requires.timely.late in
    told_err c.from_residual.result refused c.from_residual.ensures.1 ∙ by_first s a.id a.time a.act _ first (some_number refused)

pub next_title-requires : goal.next_title-requires
next_title-requires c =
    let a = c.args in
    let s = (unpacked a.row.now).state in
    let none = sym (by_title s a.id a.time a.act _ 0 c.in_ok-title_verdict.ensures c.title_at-t.ensures
    c.requires.timely.numbers c.requires.timely.late) in
    rw c.title_at-t.ensures
    record {
      turnable = taken_turnable s a.id a.time a.act none;
      time_le_asked_max = event_time s a.id a.time (both_l _ _ c.requires.timely.numbers);
    }

pub settle-requires : goal.settle-requires
settle-requires c =
    let a = c.args in
    let s = (unpacked a.row.now).state in
    let none = sym (by_title s a.id a.time a.act _ 0 c.in_ok-title_verdict.ensures c.title_at-t.ensures
    c.requires.timely.numbers c.requires.timely.late) in
    record {
      tested = c.requires.tested;
      id_le_id_max = (
        event_id s a.id a.time (both_l _ _ c.requires.timely.numbers),
        λ _. rw (c.next_title.ensures, c.title_at-t.ensures) (taken_filmed s a.id a.time a.act none),
      );
    }

pub returns : goal.returns
returns c =
    let a = c.args in
    let r = a.row.now in
    let g = unpacked r in
    let first = by_title g.state a.id a.time a.act _ 0 c.in_ok-title_verdict.ensures c.title_at-t.ensures
    c.requires.timely.numbers c.requires.timely.late in
    let next : c.next_title.result ≡ next_title (title_at g.state a.id) a.time a.act =
    c.next_title.ensures ∙ ap (λ (t : Title). next_title t a.time a.act) c.title_at-t.ensures in
    record {
      value = c.settle.ensures.value
          ∙ ap (λ b. settled_answer b (with_title g.state a.id c.next_title.result a.time) a.time) c.sets_count.ensures
          ∙ ap (λ (t : Title). settled_answer (sets_count a.act) (with_title g.state a.id t a.time) a.time) next
          ∙ by_lanes g.state a.id a.time a.act 0 first refl;
      row_after = c.settle.ensures.row_after
          ∙ ap (λ (t : Title). pick (eqb (told c.settle.result) 0) (packed (with_state g (with_title g.state a.id t a.time))) r) next;
    }
