-- Two outcomes that the contract of `lines::parse` admits are equal. Rests on its being an equation to a definition.
use mathlib.Core.Path.{sym, ◌∙◌}
use Rattle.rules.specs.OneOutcome.{OneOutcome}
use Rattle.console_lines.proofs.lines.parse.Kinds as parse-kinds
use Rattle.console_lines.proofs.lines.parse.Reads as parse-Call

pub one_outcome : OneOutcome 1 parse-kinds.ps parse-kinds.r parse-Call.Learnt
one_outcome κs a x y e f p q = p ∙ sym q
