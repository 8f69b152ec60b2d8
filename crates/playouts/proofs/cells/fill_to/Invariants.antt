-- What the loop keeps.
use mathlib.Core.Path.{◌≡◌}
use Prim.Native.Nat.{◌-◌, ◌≤◌}
use lib.ListN.{length}
use Rattle.playouts.specs.inner.Steps.{standing_number_at, laid_from}
use Rattle.playouts.proofs.cells.fill_to.Given as goal

abbrev pub invariant-loop-j : goal.invariant-loop-j
invariant-loop-j l = (l.j - l.initial.j ≤ l.end - l.initial.j) × (l.numbers ≡ laid_from (standing_number_at l.t l.from) l.initial.j l.initial.numbers (l.j - l.initial.j)) × (length l.numbers ≡ length l.initial.numbers)
