-- `salvaging::rows::put_ended` meets its contract, by whether a stretch is open.
use mathlib.Core.Path.{sym, ◌∙◌}
use Rattle.salvaging.proofs.Laying.{open_put, none_put}
use borrow.Author.Rules.{rules}
use Rattle.salvaging.proofs.rows.put_ended.Goals as goal

pub returns-then-is_open : goal.returns-then-is_open
returns-then-is_open c =
    let second = c in
    let first = second in
    let found = first in
    open_put _ _ _ _ (sym found.is_open.ensures ∙ found.if-is_open.true) first.put_value-a.ensures
    second.put_value.ensures

pub returns : goal.returns
returns c = none_put _ _ (sym c.is_open.ensures ∙ c.if-is_open.false)
