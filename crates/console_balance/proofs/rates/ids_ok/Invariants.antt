-- What the loop keeps: the pairs passed have ids.
use mathlib.Core.Path.{◌≡◌}
use mathlib.Core.Bool.{true}
use lib.Dec.{leb}
use Rattle.rules.specs.Limits.{id_max}
use Rattle.rules.specs.Search.{every}
use Rattle.console_balance.specs.Rates.{pair_id}
use Rattle.console_balance.proofs.rates.ids_ok.Given as goal

abbrev pub invariant-loop-i : goal.invariant-loop-i
invariant-loop-i l = every (λ j. leb (pair_id l.numbers j) id_max) l.i ≡ true
