-- `salvage::input::feed` meets its contract: what stands in the buffer is a part of it.
use mathlib.Core.Path.{sym}
use native.Mathlib.Omega.{arith}
use lib.Seq.{length-take-le}
use Rattle.salvage.proofs.Passing.{over_counts, over_none}
use borrow.Author.Rules.{rules}
use Rattle.salvage.proofs.input.feed.Goals as goal

pub returns-in-Some-Last : goal.returns-in-Some-Last
returns-in-Some-Last c = (over_none c.pass_last.result c.pass_last.ensures.0, c.pass_last.ensures.1)

pub returns-in-None : goal.returns-in-None
returns-in-None c =
    let e = c.ended.ensures in
    let at-refill = c in
    let pre = at-refill.requires in
    (over_none c.ended.result e.0, over_counts _ c.ended.result e pre.0)
