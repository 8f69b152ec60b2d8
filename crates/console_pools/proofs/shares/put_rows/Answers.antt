-- `console_pools::shares::put_rows` meets its contract: the counts of the sharing stand behind its answer.
use borrow.Author.Rules.{rules}
use Rattle.console_pools.proofs.Answered.{share_told, share_refused}
use Rattle.console_pools.proofs.shares.put_rows.Goals as goal

pub returns-then-answer-eq-DONE : goal.returns-then-answer-eq-DONE
returns-then-answer-eq-DONE c =
    let x = c.args in
    share_told x.asked.now x.pool _ x.rates.now x.lengths.now x.floors.now x.caps.now x.counts.now _
    c.share-answer.ensures c.put_done.ensures c.if-answer-eq-DONE.true (search rules) c.put_shares.ensures

pub returns-else-answer-eq-DONE : goal.returns-else-answer-eq-DONE
returns-else-answer-eq-DONE c =
    let x = c.args in
    share_refused x.asked.now x.pool _ x.rates.now x.lengths.now x.floors.now x.caps.now x.counts.now _
    c.share-answer.ensures c.put_done.ensures c.if-answer-eq-DONE.false c.put_limits.ensures
