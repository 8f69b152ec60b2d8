-- `moves` meets its contract: each way out decides the tests up to it.
use Rattle.wishes.proofs.passes.moves.Goals as goal

pub returns-then-takes_part : goal.returns-then-takes_part
returns-then-takes_part c = simp (← c.takes_part.ensures, c.if-takes_part.true, c.if-up.true)

pub returns-else-takes_part : goal.returns-else-takes_part
returns-else-takes_part c = simp (← c.takes_part.ensures, c.if-takes_part.false)

pub returns-then-takes_part-2 : goal.returns-then-takes_part-2
returns-then-takes_part-2 c = simp (← c.takes_part-else-up.ensures, c.if-takes_part-2.true, c.if-up.false)

pub returns-else-takes_part-2 : goal.returns-else-takes_part-2
returns-else-takes_part-2 c = simp (← c.takes_part-else-up.ensures, c.if-takes_part-2.false)
