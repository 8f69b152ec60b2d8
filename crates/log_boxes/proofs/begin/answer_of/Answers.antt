-- `log_boxes::begin::answer_of` meets its contract: the limits, then the window of the box's ticks.
use mathlib.Core.Path.{sym, ap, ◌∙◌}
use native.Mathlib.Omega.{arith}
use Rattle.playouts.specs.inner.Steps.{window_answer}
use Rattle.log_boxes.specs.inner.Steps.{last_tick}
use Rattle.log_boxes.proofs.Standing.{given_in, time_in, outside, inside}
use Rattle.log_boxes.proofs.begin.answer_of.Goals as goal

pub end_of-end-requires : goal.end_of-end-requires
end_of-end-requires c = given_in _ _ _ (sym c.in_limits.ensures ∙ c.if-in_limits.true)

pub last_tick-requires : goal.last_tick-requires
last_tick-requires c = let at-limits = c in
    record { opened = c.before.end_of-end.ensures.opened; time_le_asked_max = time_in _ _ _ (sym at-limits.in_limits.ensures ∙ c.if-in_limits.true) }

pub window_answer-requires : goal.window_answer-requires
window_answer-requires c =
    let at-if = c in
    given_in _ _ _ (sym at-if.in_limits.ensures ∙ at-if.if-in_limits.true)

pub returns-then-in_limits : goal.returns-then-in_limits
returns-then-in_limits c =
    let at_end = c in
    let at-if = at_end in
    let known = at-if in
    c.window_answer.ensures
    ∙ ap (window_answer _ _ _) (c.last_tick.ensures ∙ ap (λ t. last_tick t known.args.time) at_end.end_of-end.ensures.title_is)
    ∙ inside _ _ _ _ (sym at-if.in_limits.ensures ∙ at-if.if-in_limits.true) (λ j. omega (arith, known.shared_slice_known-1.given j))

pub returns : goal.returns
returns c = outside _ _ _ _ (sym c.in_limits.ensures ∙ c.if-in_limits.false)
