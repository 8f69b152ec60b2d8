-- `console_balance::rates::rates_by` meets its contract: the pairs passed have set their rate.
use mathlib.Core.Path.{refl}
use native.Mathlib.Numerals.{add-one}
use Rattle.console_balance.specs.Rates.{rates_by}
use Rattle.console_balance.proofs.rates.rates_by.Goals as goal

pub loop-i-init : goal.loop-i-init
unfolding rates_by
loop-i-init c = refl

pub loop-i-preserved : goal.loop-i-preserved
unfolding rates_by
loop-i-preserved c = rw add-one (cc)
