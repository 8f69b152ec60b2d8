-- `console_pools::columns::column` meets its contract: the titles passed have their number.
use mathlib.Core.Path.{refl}
use native.Mathlib.Numerals.{add-one}
use Rattle.console_pools.specs.Shares.{column}
use Rattle.console_pools.proofs.columns.column.Goals as goal

pub loop-i-init : goal.loop-i-init
unfolding column
loop-i-init c = refl

pub loop-i-preserved : goal.loop-i-preserved
unfolding column
loop-i-preserved c = rw add-one (cc)
