-- `salvage::input::say_end` is safe and ends: it writes the whole end.
use mathlib.Core.Path.{sym}
use native.Mathlib.Omega.{arith}
use lib.Seq.{length-take-le}
use Rattle.salvage_lines.proofs.Saying.{end_within}
use borrow.Author.Rules.{rules}
use Rattle.salvage.proofs.input.say_end.Goals as goal

pub slice_bounds-out-end : goal.slice_bounds-out-end
slice_bounds-out-end c = end_within _ _ _ _ (omega arith) c.put_end-n.ensures

pub slice_bounds-give-end : goal.slice_bounds-give-end
slice_bounds-give-end c = sym (length-take-le _ _ (end_within _ _ _ _ (omega arith) c.put_end-n.ensures))
