-- `summing::lay_sum` meets its contract: the sum of the part is laid.
use Rattle.journals.proofs.summing.lay_sum.Goals as goal

pub returns : goal.returns
returns c =
    let put = c in
    rw (put.from.ensures, put.sum-total.ensures) at put.put.ensures
