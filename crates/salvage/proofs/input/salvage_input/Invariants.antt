-- What the loop keeps.
use mathlib.Core.Path.{◌≡◌}
use native.Mathlib.Omega.{arith}
use lib.ListN.{length}
use Rattle.scanning.specs.inner.Steps.{Counts}
use Rattle.scanning.proofs.Stepping.{fresh_counts}
use Rattle.salvage.specs.Blocks.{block_room}
use borrow.Author.Rules.{rules}
use Rattle.salvage.proofs.input.salvage_input.Given as goal

abbrev pub invariant-loop : goal.invariant-loop
invariant-loop l = Counts l.fed.progress × (block_room ≡ length l.buffer)
