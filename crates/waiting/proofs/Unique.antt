-- The calls' contracts settle what they give back: two outcomes that one of them admits are equal. Rests on `told_once`.
use mathlib.Core.Path.{sym, ◌∙◌}
use Rattle.rules.specs.OneOutcome.{OneOutcome}
use Rattle.waiting.proofs.report_of.Kinds as report-kinds
use Rattle.waiting.proofs.report_of.Reads as report-call
use Rattle.waiting.proofs.reasons.never_opened.Kinds as never-kinds
use Rattle.waiting.proofs.reasons.never_opened.Reads as never-call
use Rattle.waiting.proofs.Telling.{told_once}

pub one_outcome : OneOutcome 2 report-kinds.ps report-kinds.r report-call.Learnt
one_outcome κs a x y e f p q = told_once _ _ _ _ x y p q

pub never_opened_one_outcome : OneOutcome 1 never-kinds.ps never-kinds.r never-call.Learnt
never_opened_one_outcome κs a x y e f p q = p ∙ sym q
