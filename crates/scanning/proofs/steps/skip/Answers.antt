-- `scanning::steps::skip` meets its contract, by whether the latest stretch is open.
use mathlib.Core.Path.{sym, ◌∙◌}
use Rattle.scanning.proofs.Stepping.{joins, starts}
use borrow.Author.Rules.{rules}
use Rattle.scanning.proofs.steps.skip.Goals as goal

pub returns-then-is_open : goal.returns-then-is_open
returns-then-is_open c = joins _ (sym c.is_open.ensures ∙ c.if-is_open.true)

pub returns : goal.returns
returns c = starts _ (sym c.is_open.ensures ∙ c.if-is_open.false)
