-- `write` meets its contract: the first places are those of the other row, and later places stay.
use Rattle.std.proofs.Common.{ℕ, List, ◌++◌, drop, ap, ◌∙◌, arith}
use Rattle.planner.proofs.Steps.{first_take}
use Rattle.planner.proofs.rows.write.Goals as goal

pub returns : goal.returns
returns c =
    let a = c.args in
    ap (λ (xs : List ℕ). xs ++ drop a.many a.to.now) (c.copy_from_slice.ensures.after ∙ first_take a.from.now a.many (omega (arith, c.told-from)))
