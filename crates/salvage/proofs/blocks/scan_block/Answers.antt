-- `salvage::blocks::scan_block` meets its contract: its rows have room for all that a block adds.
use native.Mathlib.Omega.{arith}
use Rattle.salvage.proofs.InBlocks.{block_holds}
use borrow.Author.Rules.{rules}
use Rattle.salvage.proofs.blocks.scan_block.Goals as goal

pub returns : goal.returns
returns c = block_holds _ _ _ _ _ _ _ _ c.walk-walked.ensures c.requires.1.0 (omega arith) (omega arith)
