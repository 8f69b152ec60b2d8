-- What the loop keeps.
use mathlib.Core.Path.{◌≡◌}
use Rattle.moments.specs.inner.Steps.{release_in}
use Rattle.moments.proofs.releases.next_release.Given as goal

abbrev pub invariant-loop-t : goal.invariant-loop-t
invariant-loop-t l = l.r ≡ release_in l.fn.s l.time l.t-index
