-- `place_behind` meets its contract, from the test of taking part.
use native.Mathlib.Nat.{add-zero}
use Rattle.wishes.proofs.shares.place_behind.Goals as goal

pub returns-then-takes_part : goal.returns-then-takes_part
returns-then-takes_part c = simp (← c.takes_part.ensures, c.if-takes_part.true)

pub returns-else-takes_part : goal.returns-else-takes_part
returns-else-takes_part c = simp (← c.takes_part.ensures, c.if-takes_part.false, add-zero)
