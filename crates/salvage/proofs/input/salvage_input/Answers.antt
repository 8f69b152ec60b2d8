-- `salvage::input::salvage_input` is safe and ends. The buffer keeps its length.
use mathlib.Core.Path.{◌≡◌}
use native.Mathlib.Omega.{arith}
use lib.ListN.{length}
use Rattle.scanning.specs.inner.Steps.{Counts}
use Rattle.scanning.proofs.Stepping.{fresh_counts}
use Rattle.salvage.specs.Blocks.{block_room}
use borrow.Author.Rules.{rules}
use Rattle.salvage.proofs.input.salvage_input.Goals as goal

pub loop-init : goal.loop-init
loop-init c = (fresh_counts _ c.begun.ensures, search rules)

pub feed-fed-requires : goal.feed-fed-requires
feed-fed-requires c =
    let inv = c.loop.invariant in
    (inv.0, omega (arith, inv.1))

pub loop-preserved : goal.loop-preserved
loop-preserved c = (c.feed-fed.ensures.1, search rules)
