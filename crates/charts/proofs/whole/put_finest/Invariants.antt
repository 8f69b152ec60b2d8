-- What the loop keeps.
use Prim.Native.Nat.{◌-◌}
use lib.ListN.{length}
use Rattle.charts.specs.Charts.{tries}
use Rattle.charts.proofs.Fitting.{Trying}
use Rattle.charts.proofs.whole.put_finest.Given as goal

abbrev pub invariant-loop-tried : goal.invariant-loop-tried
invariant-loop-tried l = Trying l.pool l.log (length l.initial.out) l.out l.columns l.grain (tries - l._tried) l.end
