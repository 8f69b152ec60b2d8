-- `rl_write_row` meets its contract: 10 first, then what the writing told.
use Rattle.rongalishu.proofs.Told.{written_short, written_told}
use Rattle.rongalishu.proofs.notices.rl_write_row.Goals as goal

pub returns-then-written-lt1 : goal.returns-then-written-lt1
returns-then-written-lt1 c = written_short _ _ _ c.if-written-lt1.true

pub returns : goal.returns
returns c =
    rw c.give.ensures.answers (written_told _ _ _ c.write-told.result _ _ c.if-written-lt1.false c.write-told.ensures c.give.ensures.leaves)
