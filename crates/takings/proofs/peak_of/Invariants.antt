-- What the loop keeps, and what falls.
use mathlib.Core.Path.{◌≡◌}
use lib.ListN.{length, get_or}
use Rattle.takings.specs.Takings.{kept_at, peak_to}
use Rattle.takings.proofs.peak_of.Given as goal

abbrev pub invariant-loop-tick : goal.invariant-loop-tick
invariant-loop-tick l = l.most ≡ peak_to (kept_at (λ c. get_or l.taken c 0) (length l.taken)) l.tick
