-- Two outcomes that a contract of `reading` admits are equal: each is an equation to a definition. Of `put_clock` it is
-- `puts_one_outcome` of `text`.
use mathlib.Core.Path.{sym, ◌∙◌}
use Rattle.rules.specs.OneOutcome.{OneOutcome}
use Rattle.clocks.proofs.reading.has_colon.Kinds as colon-kinds
use Rattle.clocks.proofs.reading.has_colon.Reads as colon-call
use Rattle.clocks.proofs.reading.is_clock.Kinds as form-kinds
use Rattle.clocks.proofs.reading.is_clock.Reads as form-call
use Rattle.clocks.proofs.reading.clock.Kinds as clock-kinds
use Rattle.clocks.proofs.reading.clock.Reads as clock-call

pub colon_one_outcome : OneOutcome 1 colon-kinds.ps colon-kinds.r colon-call.Learnt
colon_one_outcome κs a x y e f p q = p ∙ sym q

pub form_one_outcome : OneOutcome 1 form-kinds.ps form-kinds.r form-call.Learnt
form_one_outcome κs a x y e f p q = p ∙ sym q

pub clock_one_outcome : OneOutcome 1 clock-kinds.ps clock-kinds.r clock-call.Learnt
clock_one_outcome κs a x y e f p q = p ∙ sym q
