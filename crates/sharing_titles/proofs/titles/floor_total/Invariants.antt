-- What the loop keeps.
use mathlib.Core.Path.{◌≡◌}
use Prim.Native.Nat.{◌≤◌, ◌+◌, ◌*◌}
use lib.ListN.{drop}
use Rattle.sharing_titles.specs.Titles.{row_total}
use Rattle.sharing_titles.proofs.titles.floor_total.Given as goal

abbrev pub invariant-loop-floor : goal.invariant-loop-floor
invariant-loop-floor l = (l.sum ≤ 4_294_967_296 * l.floor-index) × (l.sum + row_total (drop l.floor-index l.floors) ≡ row_total l.floors)
