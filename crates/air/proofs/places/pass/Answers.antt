-- `air::places::pass` meets its contract, by the byte.
use mathlib.Core.Path.{sym, ◌∙◌}
use Rattle.air.proofs.Placing.{passes_line, passes_gap, passes_inside, passes_word}
use Rattle.air.proofs.places.pass.Goals as goal

pub returns-then-b-eq10 : goal.returns-then-b-eq10
returns-then-b-eq10 c = passes_line _ _ c.if-b-eq10.true _ c.one_more.ensures

pub returns-then-is_separator : goal.returns-then-is_separator
returns-then-is_separator c = passes_gap _ _ c.if-b-eq10.false (sym c.is_separator.ensures ∙ c.if-is_separator.true)

pub returns-then-inside : goal.returns-then-inside
returns-then-inside c = passes_inside _ _ c.if-b-eq10.false (sym c.is_separator.ensures ∙ c.if-is_separator.false) c.if-inside.true

pub returns : goal.returns
returns c = passes_word _ _ c.if-b-eq10.false (sym c.is_separator.ensures ∙ c.if-is_separator.false) c.if-inside.false _ c.one_more-2.ensures
