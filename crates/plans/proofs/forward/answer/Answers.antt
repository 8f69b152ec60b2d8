-- `plans::forward::answer` meets its contract: each way out is one refusal of the list, or done.
-- Rests on the laws of refusals.
use mathlib.Core.Path.{sym, ◌∙◌}
use native.Mathlib.Omega.{arith}
use Rattle.plans.proofs.forward.Refusals.{refused_limits, refused_rows, accepted, limits}
use Rattle.plans.proofs.forward.answer.Goals as goal

pub returns-then-not-in_limits : goal.returns-then-not-in_limits
returns-then-not-in_limits c = sym (refused_limits _ _ _ (sym c.in_limits.ensures ∙ c.if-not-in_limits.true))

pub overflow_sub-count : goal.overflow_sub-count
overflow_sub-count c = omega (arith, (limits c.args.count c.args.arrival (sym c.in_limits.ensures ∙ c.if-not-in_limits.false)).low)

pub pow2-requires : goal.pow2-requires
pow2-requires c = omega (arith, (limits c.args.count c.args.arrival (sym c.in_limits.ensures ∙ c.if-not-in_limits.false)).high)

pub returns-then-places-pow2 : goal.returns-then-places-pow2
returns-then-places-pow2 c =
    sym (refused_rows _ _ _ (sym c.in_limits.ensures ∙ c.if-not-in_limits.false) (omega (arith, c.pow2.ensures.is, c.if-places-pow2.true)))

pub returns : goal.returns
returns c =
    sym (accepted _ _ _ (sym c.in_limits.ensures ∙ c.if-not-in_limits.false) (omega (arith, c.pow2.ensures.is, c.if-places-pow2.false)))
