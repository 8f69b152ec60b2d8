-- `grid::low_zeros` meets its contract: the language counts in 64 digits, and of fewer digits there are as many zeros
-- or all. Rests on the laws of low zeros.
use mathlib.Core.Path.{sym, ap, ◌∙◌}
use native.Mathlib.Omega.{arith}
use lib.Count.{count_trailing_zeros, trailing_of_zero}
use Rattle.grid.proofs.Zeros.{zeros_few}
use Rattle.grid.proofs.low_zeros.Goals as goal

pub returns-then-x-eq0 : goal.returns-then-x-eq0
returns-then-x-eq0 c = let a = c.args in sym (ap (count_trailing_zeros a.most) c.if-x-eq0.true ∙ trailing_of_zero a.most)

pub returns : goal.returns
returns c =
    let a = c.args in
    c.min.ensures ∙ rw c.from.ensures (zeros_few 64 a.most a.x (omega (arith, c.requires)))
