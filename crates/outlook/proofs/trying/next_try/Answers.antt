-- `next_try` meets its contract: what stands in the event's way says how long, or that no later time accepts it.
use mathlib.Core.Path.{◌≡◌, ap, sym, ◌∙◌}
use Rattle.story.specs.declared.Event.{Event}
use Rattle.story.specs.Runs.{answered}
use Rattle.outlook.specs.Outlook.{asked_at, is_mended}
use Rattle.outlook.proofs.Tried.{moment_skips, early_skips, id_skips, never_skips}
use Rattle.outlook.proofs.trying.next_try.Goals as goal

pub returns-then-is_mended : goal.returns-then-is_mended
returns-then-is_mended c =
    let at_room = c in
    let at_start = at_room in
    let at_event = at_start in
    let start = at_event in
    let a = start.args in
    moment_skips a.s a.e a.time start.requires at_event.event_at-now.ensures at_start.start_from.ensures at_room.room_from.ensures
    c.max.ensures

pub returns-then-answer-eq-TOO_EARLY : goal.returns-then-answer-eq-TOO_EARLY
returns-then-answer-eq-TOO_EARLY c =
    let start = c in
    let a = start.args in
    early_skips a.s a.e a.time start.requires c.min.result c.min.ensures

pub returns-then-answer-eq-ID_TAKEN : goal.returns-then-answer-eq-ID_TAKEN
returns-then-answer-eq-ID_TAKEN c =
    let at_call = c in
    let start = at_call in
    let a = start.args in
    let said : at_call.call-answer.result.answer ≡ answered a.s (asked_at a.e a.time) =
    at_call.call-answer.ensures.0 ∙ ap (λ (f : Event). answered a.s f) at_call.event_at-now.ensures in
    rw c.id_free_from.ensures (id_skips a.s a.e a.time start.requires (sym said ∙ c.if-answer-eq-ID_TAKEN.true))

pub returns : goal.returns
returns c =
    let at-mended = c in
    let at_call = at-mended in
    let start = at_call in
    let a = start.args in
    let said : at_call.call-answer.result.answer ≡ answered a.s (asked_at a.e a.time) =
    at_call.call-answer.ensures.0 ∙ ap (λ (f : Event). answered a.s f) at_call.event_at-now.ensures in
    never_skips a.s a.e a.time start.requires
    (sym (ap is_mended said) ∙ sym at-mended.is_mended.ensures ∙ c.if-is_mended.false)
    (λ z. c.if-answer-eq-TOO_EARLY.false (said ∙ z)) (λ z. c.if-answer-eq-ID_TAKEN.false (said ∙ z))
