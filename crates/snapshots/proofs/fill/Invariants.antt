-- What the loop keeps, and what falls.
use mathlib.Core.Path.{◌≡◌}
use mathlib.Core.List.{◌++◌}
use lib.ListN.{drop}
use Rattle.snapshots.specs.Bytes.{numbers_in}
use Rattle.snapshots.proofs.fill.Given as goal

abbrev pub invariant-loop-i : goal.invariant-loop-i
invariant-loop-i l = l.row ≡ numbers_in l.bytes l.i ++ drop l.i l.initial.row
