-- What the loop keeps: the places passed hold the lane's blocks.
use mathlib.Core.Path.{◌≡◌}
use lib.ListN.{length}
use Rattle.figures.specs.Steady.{block_on}
use Rattle.figures.proofs.Filling.{Filled}
use Rattle.figures.proofs.steady.on_lane.Given as goal

abbrev pub invariant-loop-i : goal.invariant-loop-i
invariant-loop-i l = (length l.block-items ≡ 16) × Filled (block_on l.lane) l.block-items l.i
