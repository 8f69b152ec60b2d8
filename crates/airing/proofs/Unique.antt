-- The calls' contracts settle what they give back and the row that they leave: two outcomes that one of them admits are equal.
-- Rests on their equations.
use mathlib.Core.Path.{◌≡◌, sym, ◌∙◌}
use Rattle.rules.specs.OneOutcome.{OneEnd, OneOutcome}
use Rattle.airing.proofs.admissions.Kinds as admissions-kinds
use Rattle.airing.proofs.admissions.Reads as admissions-call
use Rattle.airing.proofs.air.Kinds as air-kinds
use Rattle.airing.proofs.air.Reads as air-call
use Rattle.airing.proofs.reasons.is_skip_forward.Kinds as skip-kinds
use Rattle.airing.proofs.reasons.is_skip_forward.Reads as skip-call
use Rattle.airing.proofs.reasons.first_stray.Kinds as stray-kinds
use Rattle.airing.proofs.reasons.first_stray.Reads as stray-call

-- the row of marks is parameter 3, from 0
pub admissions_one_outcome : OneEnd 2 admissions-kinds.ps admissions-kinds.r (λ κs e f. e.1.1.1.0.now ≡ f.1.1.1.0.now) admissions-call.Learnt
admissions_one_outcome κs a x y e f p q = (p.0 ∙ sym q.0, p.1 ∙ sym q.1)

-- the row of results is parameter 4
pub air_one_outcome : OneEnd 3 air-kinds.ps air-kinds.r (λ κs e f. e.1.1.1.1.0.now ≡ f.1.1.1.1.0.now) air-call.Learnt
air_one_outcome κs a x y e f p q = (p.0 ∙ sym q.0, p.1 ∙ sym q.1)

pub skip_forward_one_outcome : OneOutcome 1 skip-kinds.ps skip-kinds.r skip-call.Learnt
skip_forward_one_outcome κs a x y e f p q = p ∙ sym q

pub stray_one_outcome : OneOutcome 2 stray-kinds.ps stray-kinds.r stray-call.Learnt
stray_one_outcome κs a x y e f p q = p ∙ sym q
