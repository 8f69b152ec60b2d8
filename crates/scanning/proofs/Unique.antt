-- Two outcomes that the contract of a public call admits for the same arguments are equal. The contract is cited as the checker
-- has it: `Learnt` is all that a caller learns of a call.
use mathlib.Core.Path.{sym, ◌∙◌}
use Rattle.rules.specs.OneOutcome.{OneOutcome}
use Rattle.scanning.proofs.scan.look.Kinds as look-kinds
use Rattle.scanning.proofs.scan.look.Reads as look

pub look_one_outcome : OneOutcome 1 look-kinds.ps look-kinds.r look.Learnt
look_one_outcome κs a x y e f p q = p ∙ sym q
