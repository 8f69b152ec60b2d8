-- `waits::arrivals::take_byte` meets its contract: a digit, a gap, or neither.
use mathlib.Core.Path.{sym, ◌∙◌}
use Rattle.waits.proofs.Taking.{takes_none, takes_digit, takes_gap, takes_other}
use Rattle.waits.proofs.arrivals.take_byte.Goals as goal

pub returns-then-is_some : goal.returns-then-is_some
returns-then-is_some c = takes_none _ _ _ _ (sym c.is_some.ensures ∙ c.if-is_some.true)

pub returns-then-is_digit : goal.returns-then-is_digit
returns-then-is_digit c =
    takes_digit _ _ _ _ (sym c.is_some.ensures ∙ c.if-is_some.false) _ _ (sym c.is_digit.ensures ∙ c.if-is_digit.true) c.unwrap_or.ensures
    c.grow.ensures

pub returns-then-is_gap : goal.returns-then-is_gap
returns-then-is_gap c =
    takes_gap _ _ _ _ (sym c.is_some.ensures ∙ c.if-is_some.false) _ _ (sym c.is_digit.ensures ∙ c.if-is_digit.false)
    (sym c.is_gap.ensures ∙ c.if-is_gap.true) c.end_number.ensures

pub returns : goal.returns
returns c =
    takes_other _ _ _ _ (sym c.is_some.ensures ∙ c.if-is_some.false) (sym c.is_digit.ensures ∙ c.if-is_digit.false)
    (sym c.is_gap.ensures ∙ c.if-is_gap.false)
