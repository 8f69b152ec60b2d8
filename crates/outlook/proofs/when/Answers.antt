-- `when` meets its contract: the first accepted time where the clock has it, else what lasts of the answer.
use mathlib.Core.Path.{◌≡◌, ap, sym, ◌∙◌}
use Prim.Native.Nat.{ℕ, max}
use Rattle.rules.specs.Refusals.{past_clock}
use Rattle.rules.proofs.Tests.{pick_true, pick_false}
use Rattle.story.specs.declared.Event.{Event}
use Rattle.story.specs.Runs.{answered}
use Rattle.outlook.specs.Outlook.{asked_at, is_mended}
use Rattle.outlook.proofs.Tried.{when_on, when_past}
use Rattle.outlook.proofs.when.Tie as tie
use Rattle.outlook.proofs.when.Lts as lts
use Rattle.outlook.proofs.when.Reads as reads
use Rattle.outlook.proofs.when.Goals as goal

pub returns-then-time-le-EVENT_TIME_MAX : goal.returns-then-time-le-EVENT_TIME_MAX
returns-then-time-le-EVENT_TIME_MAX c =
    let first = c in
    let a = first.args in
    when_on a.s a.e first.accepted_from-time.result first.accepted_from-time.ensures c.if-time-le-EVENT_TIME_MAX.true

-- what is answered at the later of its time and the last event's
said : (c : lts.After-is_mended tie.the-claims reads.Pre reads.Post) →
    let a = c.args in
    c.call-answer.result.answer ≡ answered a.s (asked_at a.e (max a.e.time a.s.last))
said c =
    let at_call = c in
    let at-larger = at_call in
    let a = at-larger.args in
    at_call.call-answer.ensures.0
    ∙ ap (λ (f : Event). answered a.s f)
    (at_call.event_at-late.ensures ∙ ap (λ (n : ℕ). asked_at a.e n) at-larger.max.ensures)

pub returns-then-is_mended : goal.returns-then-is_mended
returns-then-is_mended c =
    let at-mended = c in
    let at-else = at-mended in
    let first = at-else in
    let a = first.args in
    when_past a.s a.e first.accepted_from-time.result first.accepted_from-time.ensures at-else.if-time-le-EVENT_TIME_MAX.false (said at-mended.before)
    (sym (pick_true (is_mended at-mended.call-answer.result.answer) past_clock at-mended.call-answer.result.answer
    (sym at-mended.is_mended.ensures ∙ c.if-is_mended.true)))

pub returns : goal.returns
returns c =
    let at-mended = c in
    let at-else = at-mended in
    let first = at-else in
    let a = first.args in
    when_past a.s a.e first.accepted_from-time.result first.accepted_from-time.ensures at-else.if-time-le-EVENT_TIME_MAX.false (said at-mended.before)
    (sym (pick_false (is_mended at-mended.call-answer.result.answer) past_clock at-mended.call-answer.result.answer
    (sym at-mended.is_mended.ensures ∙ c.if-is_mended.false)))
