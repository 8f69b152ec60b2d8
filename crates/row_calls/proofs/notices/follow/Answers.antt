-- `follow` meets its contract: the event's answer, and the notice's sequence where it is accepted.
use Rattle.std.proofs.Common.{ap, ◌∙◌, refl}
use lib.Dec.{eqb}
use Rattle.rules.specs.Refusals.{pick}
use Rattle.rules.specs.Told.{refusal_number}
use Rattle.rules.proofs.Told.{some_number, told_err}
use Rattle.story.specs.declared.Event.{Event}
use Rattle.story.specs.Next.{call_next}
use Rattle.story.specs.Runs.{answered}
use Rattle.agent_rows.specs.Packed.{packed, unpacked, with_state}
use Rattle.row_calls.proofs.Heeded.{turn_taken, turn_refused}
use Rattle.row_calls.proofs.notices.follow.Goals as goal

pub returns-in_err-put_event : goal.returns-in_err-put_event
returns-in_err-put_event c =
    let r = c.args.row.now in
    let refused = c.in_err-put_event.field-0.0 in
    let put = c.in_err-put_event.ensures in
    let heeds = turn_refused r c.requires.tested.long c.args.n c.requires.sequence_value c.requires.tested.sound (refusal_number refused)
    c.put_event.new.row (put.value ∙ ap (λ (e : Event). answered (unpacked r).state e) c.event_of.ensures)
    (put.row_after ∙ ap (λ (e : Event). pick (eqb (refusal_number refused) 0) (packed (with_state (unpacked r) (call_next (unpacked r).state e.title e.time e.act))) r) c.event_of.ensures)
    (some_number refused) in
    (told_err c.from_residual.result refused c.from_residual.ensures.1 ∙ heeds.0, heeds.1)

pub returns : goal.returns
returns c =
    let r = c.args.row.now in
    let put = c.in_ok-put_event.ensures in
    rw c.from.ensures
    (turn_taken r c.requires.tested.long c.args.n c.requires.sequence_value c.requires.tested.sound 0
    c.put_event.new.row (put.value ∙ ap (λ (e : Event). answered (unpacked r).state e) c.event_of.ensures)
    (put.row_after ∙ ap (λ (e : Event). packed (with_state (unpacked r) (call_next (unpacked r).state e.title e.time e.act))) c.event_of.ensures)
    refl)
