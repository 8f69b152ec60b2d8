-- `shares_of` meets its contract: the counts of the rows' sharing, at the ids of their titles.
use Rattle.sharers.proofs.Sharers.{rows_whole}
use Rattle.wishes.proofs.shares.Laws.{by_share}
use Rattle.wishes.proofs.shares.shares_of.Goals as goal

pub shared_counts-counts-requires : goal.shared_counts-counts-requires
shared_counts-counts-requires c = rw c.rows_of.ensures (rows_whole _ _)

pub returns : goal.returns
returns c =
    let at-counts = c in
    let at-pool = at-counts in
    let start = at-pool in
    let rules = start.requires.rates_len in
    rw (c.by_id.ensures, at-counts.shared_counts-counts.ensures, at-counts.before.rows_of.ensures, at-pool.shared_pool.ensures)
    (by_share start.args.s start.args.rates.now start.requires.s_value rules.0 rules.1.0 rules.1.1)
