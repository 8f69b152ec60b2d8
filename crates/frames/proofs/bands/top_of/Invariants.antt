-- What the loop keeps.
use mathlib.Core.Path.{◌≡◌}
use Prim.Native.Nat.{◌+◌, ◌*◌, ◌≤◌}
use Rattle.frames.specs.Bands.{top_of, height_most, bands_top}
use Rattle.frames.proofs.bands.top_of.Given as goal

abbrev pub invariant-loop-id : goal.invariant-loop-id
invariant-loop-id l = (l.top ≡ top_of l.v l.id) × (l.top ≤ bands_top + l.id * height_most)
