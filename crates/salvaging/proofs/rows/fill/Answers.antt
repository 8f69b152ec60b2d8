-- `salvaging::rows::fill` meets its contract: the log is one window, behind which no byte follows.
use native.Mathlib.Omega.{arith}
use Rattle.scanning.proofs.Stepping.{fresh_counts, fresh_place}
use Rattle.salvaging.proofs.Laying.{all_laid}
use borrow.Author.Rules.{rules}
use Rattle.salvaging.proofs.rows.fill.Goals as goal

pub pour-poured-requires : goal.pour-poured-requires
pour-poured-requires c =
    let new = c.begun.ensures in
    (fresh_counts _ new, omega (arith, fresh_place _ new))

pub returns : goal.returns
returns c =
    let put = c in
    let known = put in
    let poured = known in
    let new = poured.begun.ensures in
    all_laid _ _ _ _ _ _ _ _ _ new poured.pour-poured.ensures put.put_ended.ensures
