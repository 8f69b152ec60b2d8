-- `playouts::answer_of` meets its contract: the limits, then the log.
use mathlib.Core.Path.{sym, ◌∙◌}
use native.Mathlib.Omega.{arith}
use Rattle.playouts.proofs.Answers.{limits_in, from_high, ticks_low, ticks_high, answer_inside, answer_outside}
use Rattle.playouts.proofs.answer_of.Goals as goal

pub overflow_add-from : goal.overflow_add-from
overflow_add-from c =
    let fits = sym c.in_limits.ensures ∙ c.if-in_limits.true in
    record { fits = omega (arith, from_high _ _ _ _ fits, ticks_high _ _ _ _ fits) }

pub overflow_sub-from : goal.overflow_sub-from
overflow_sub-from c = omega (arith, ticks_low _ _ _ _ (sym c.in_limits.ensures ∙ c.if-in_limits.true))

pub window_answer-requires : goal.window_answer-requires
window_answer-requires c = limits_in _ _ _ _ (sym c.in_limits.ensures ∙ c.if-in_limits.true)

pub returns-then-in_limits : goal.returns-then-in_limits
returns-then-in_limits c = c.window_answer.ensures ∙ answer_inside _ _ _ _ _ (sym c.in_limits.ensures ∙ c.if-in_limits.true)

pub returns : goal.returns
returns c = answer_outside _ _ _ _ _ (sym c.in_limits.ensures ∙ c.if-in_limits.false)
