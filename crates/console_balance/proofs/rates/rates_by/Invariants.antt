-- What the loop keeps: the pairs passed have set their rate.
use mathlib.Core.Path.{◌≡◌}
use Rattle.console_balance.specs.Rates.{rates_by}
use Rattle.console_balance.proofs.rates.rates_by.Given as goal

abbrev pub invariant-loop-i : goal.invariant-loop-i
invariant-loop-i l = l.row ≡ rates_by l.numbers l.i
