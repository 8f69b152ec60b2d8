-- `joined_if_part` meets its contract, from the test of taking part.
use Rattle.sharers.proofs.rows.joined_if_part.Goals as goal

pub returns-then-takes_part : goal.returns-then-takes_part
returns-then-takes_part c = simp (← c.takes_part.ensures, c.if-takes_part.true) c.joined.ensures

pub returns : goal.returns
returns c = simp (← c.takes_part.ensures, c.if-takes_part.false)
