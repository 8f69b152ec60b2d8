-- `salvaging::rows::put_taken` meets its contract, by whether a notice was taken.
use Rattle.salvaging.proofs.Laying.{puts_taken, puts_none, part_between}
use borrow.Author.Rules.{rules}
use Rattle.salvaging.proofs.rows.put_taken.Goals as goal

pub returns-then-p-next : goal.returns-then-p-next
returns-then-p-next c =
    let x = c.args in
    puts_taken x.window.now x.base x.p x.next _ _ _ c.if-p-next.true
    (part_between x.window.now x.base x.p x.next c.requires) c.put.ensures

pub returns : goal.returns
returns c =
    let x = c.args in
    puts_none x.window.now x.base x.p x.next _ c.if-p-next.false
