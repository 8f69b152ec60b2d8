-- `salvage::input::pass_on` meets its contract: what it writes lies within the block.
use mathlib.Core.Path.{sym}
use lib.Seq.{length-take-le}
use borrow.Author.Rules.{rules}
use Rattle.salvage.proofs.input.pass_on.Goals as goal

pub slice_bounds-give-end : goal.slice_bounds-give-end
slice_bounds-give-end c = sym (length-take-le _ _ c.scan_block-block.ensures.bytes_low)

pub slice_bounds-give-end-then-give : goal.slice_bounds-give-end-then-give
slice_bounds-give-end-then-give c = sym (length-take-le _ _ c.scan_block-block.ensures.told_low)
