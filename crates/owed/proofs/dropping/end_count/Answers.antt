-- `end_count` meets its contract: held doors have ended the count already, and else its end is stored.
use borrow.Author.Tests.{eq-eqb, ne_eqb}
use Rattle.owed.proofs.dropping.end_count.Goals as goal

pub returns-then-t-eq-HELD : goal.returns-then-t-eq-HELD
returns-then-t-eq-HELD c = rw (eq-eqb _ _ c.if-t-eq-HELD.true)

pub returns : goal.returns
returns c = rw (ne_eqb _ _ c.if-t-eq-HELD.false)
