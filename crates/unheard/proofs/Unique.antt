-- The call's contract settles what it gives back: two outcomes that it admits are equal. Rests on its equation.
use mathlib.Core.Path.{sym, ◌∙◌}
use Rattle.rules.specs.OneOutcome.{OneOutcome}
use Rattle.unheard.proofs.unheard_in.Kinds as unheard-kinds
use Rattle.unheard.proofs.unheard_in.Reads as unheard-call

pub one_outcome : OneOutcome 1 unheard-kinds.ps unheard-kinds.r unheard-call.Learnt
one_outcome κs a x y e f p q = p ∙ sym q
