-- `plans::rows::run` meets its contract. Rests on the law that two rises make a run.
use Rattle.plans.proofs.rows.Places.{two_rises}
use Rattle.plans.proofs.rows.run.Goals as goal

pub returns : goal.returns
returns c =
    let one = c.before.before.before.before.before.before in
    let s = one.before.before.before in
    let a = s.args in
    two_rises a.from a.many a.off s.requires.off_lt_many.0 a.row.now _ _ one.rise.ensures c.rise-2.ensures
