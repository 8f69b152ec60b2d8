-- The contracts of the plans' calls settle answer and row: two outcomes that one admits are equal. Rests on its record of equations.
use mathlib.Core.Path.{◌≡◌, sym, ◌∙◌}
use Rattle.rules.specs.OneOutcome.{OneEnd}
use Rattle.plans.proofs.plan.Kinds as plan-kinds
use Rattle.plans.proofs.plan.Reads as plan-call
use Rattle.plans.proofs.skip_plan.Kinds as skip-plan-kinds
use Rattle.plans.proofs.skip_plan.Reads as skip-plan

-- the row is parameter 4, from 0
pub plan_one_outcome : OneEnd 1 plan-kinds.ps plan-kinds.r (λ κs e f. e.1.1.1.1.0.now ≡ f.1.1.1.1.0.now) plan-call.Learnt
plan_one_outcome κs a x y e f p q = (p.answer ∙ sym q.answer, p.left ∙ sym q.left)

-- and parameter 2
pub skip_plan_one_outcome : OneEnd 1 skip-plan-kinds.ps skip-plan-kinds.r (λ κs e f. e.1.1.0.now ≡ f.1.1.0.now) skip-plan.Learnt
skip_plan_one_outcome κs a x y e f p q = (p.answer ∙ sym q.answer, p.left ∙ sym q.left)
