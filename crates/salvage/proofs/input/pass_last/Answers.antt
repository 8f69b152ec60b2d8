-- `salvage::input::pass_last` meets its contract: nothing more is read.
use Rattle.salvage.proofs.Passing.{block_counts, over_counts}
use borrow.Author.Rules.{rules}
use Rattle.salvage.proofs.input.pass_last.Goals as goal

pub returns-then-window-base : goal.returns-then-window-base
returns-then-window-base c =
    let e = c.ended.ensures in
    (e.0, over_counts _ c.ended.result e c.requires.0)

pub say_end-requires : goal.say_end-requires
say_end-requires c = block_counts _ _ _ _ c.pass_on-passed.ensures

pub returns : goal.returns
returns c =
    let e = c.ended-2.ensures in
    (e.0, over_counts _ c.ended-2.result e (block_counts _ _ _ _ c.pass_on-passed.ensures))
