-- `logs::not_begun` meets its contract, by the fresh agent of the pool.
use Rattle.logs.proofs.Own.{begins}
use borrow.Author.Rules.{rules}
use Rattle.logs.proofs.not_begun.Goals as goal

pub returns : goal.returns
returns c =
    let s = c in
    begins s.args.row.now s.args.pool _ s.requires.row_len s.requires.pool_value c.fresh.ensures.1 (search rules)
