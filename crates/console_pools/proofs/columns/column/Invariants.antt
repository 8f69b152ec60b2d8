-- What the loop keeps: the titles passed have their number.
use mathlib.Core.Path.{◌≡◌}
use Rattle.console_pools.specs.Shares.{column}
use Rattle.console_pools.proofs.columns.column.Given as goal

abbrev pub invariant-loop-i : goal.invariant-loop-i
invariant-loop-i l =
    l.n-items ≡ column l.row l.first l.apart l.i
