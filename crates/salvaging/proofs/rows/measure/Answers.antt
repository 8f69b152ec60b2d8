-- `salvaging::rows::measure` meets its contract: the log is one window, behind which no byte follows.
use native.Mathlib.Omega.{arith}
use borrow.Author.Rules.{rules}
use Rattle.scanning.proofs.Stepping.{fresh_counts, fresh_place}
use Rattle.salvaging.proofs.Laying.{all_measured}
use Rattle.salvaging.proofs.rows.measure.Goals as goal

pub pour-requires : goal.pour-requires
pour-requires c =
    let new = c.begun.ensures in
    (fresh_counts _ new, omega (arith, fresh_place _ new))

pub returns : goal.returns
returns c =
    let poured = c in
    all_measured _ _ _ _ _ _ _ poured.begun.ensures poured.pour.ensures
