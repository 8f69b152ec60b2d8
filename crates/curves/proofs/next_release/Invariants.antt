-- What the loop keeps.
use mathlib.Core.Path.{◌≡◌}
use Rattle.moments.specs.inner.Steps.{release_in}
use Rattle.agent_rows.specs.Packed.{unpacked}
use Rattle.curves.proofs.next_release.Given as goal

abbrev pub invariant-loop-id : goal.invariant-loop-id
invariant-loop-id l = l.r ≡ release_in (unpacked l.row).state l.time l.id
