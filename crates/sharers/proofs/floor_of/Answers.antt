-- `floor_of` meets its contract, from the test of taking part.
use mathlib.Core.Path.{sym, ◌∙◌}
use native.Mathlib.Omega.{arith}
use Rattle.sharers.proofs.Sharers.{floor_high}
use Rattle.sharers.proofs.floor_of.Goals as goal

pub returns-then-takes_part : goal.returns-then-takes_part
returns-then-takes_part c =
    let part = c.takes_part in
    let high = floor_high _ c.requires (sym part.ensures ∙ c.if-takes_part.true) in
    (simp (← part.ensures, c.if-takes_part.true), omega (arith, high))

pub returns-else-takes_part : goal.returns-else-takes_part
returns-else-takes_part c = (simp (← c.takes_part.ensures, c.if-takes_part.false), omega arith)
