-- `rl_next_row` meets its contract: 10 first, then what the log told.
use Rattle.rongalishu.proofs.Told.{next_short, next_told}
use Rattle.rongalishu.proofs.notices.rl_next_row.Goals as goal

pub returns-then-place-lt1 : goal.returns-then-place-lt1
returns-then-place-lt1 c = next_short _ _ _ c.if-place-lt1.true

pub returns : goal.returns
returns c =
    rw c.give.ensures.answers (next_told _ _ _ c.next-told.result _ _ c.if-place-lt1.false c.next-told.ensures c.give.ensures.leaves)
