-- What the loop keeps.
use mathlib.Core.Path.{◌≡◌}
use Rattle.agent_rows.specs.Packed.{unpacked}
use Rattle.spans.specs.Extents.{latest_over}
use Rattle.spans.proofs.latest.Given as goal

abbrev pub invariant-loop-id : goal.invariant-loop-id
invariant-loop-id l = l.end ≡ latest_over (unpacked l.row).state l.id
