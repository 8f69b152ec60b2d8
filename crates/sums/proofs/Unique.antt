-- The contracts of `sum` and `sum_joined` settle what they give back: two outcomes that one admits are equal. Rests on their being equations
-- to a definition.
use mathlib.Core.Path.{sym, ◌∙◌}
use Rattle.rules.specs.OneOutcome.{OneOutcome}
use Rattle.sums.proofs.sum.Kinds as sum-kinds
use Rattle.sums.proofs.sum.Reads as sum-call
use Rattle.sums.proofs.sum_joined.Kinds as joined-kinds
use Rattle.sums.proofs.sum_joined.Reads as joined-call

pub sum_one_outcome : OneOutcome 1 sum-kinds.ps sum-kinds.r sum-call.Learnt
sum_one_outcome κs a x y e f p q = p ∙ sym q

pub sum_joined_one_outcome : OneOutcome 2 joined-kinds.ps joined-kinds.r joined-call.Learnt
sum_joined_one_outcome κs a x y e f p q = p ∙ sym q
