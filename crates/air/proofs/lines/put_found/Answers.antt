-- `air::lines::put_found` meets its contract: which of the two faults it is.
use borrow.Author.Tests.{eq-eqb, ne_eqb}
use Rattle.text.specs.Texts.{text}
use Rattle.air.specs.Lines.{record_fault}
use Rattle.air.proofs.lines.put_found.Goals as goal

pub returns-then-fault-eq-NO_NUMBER : goal.returns-then-fault-eq-NO_NUMBER
unfolding record_fault text
returns-then-fault-eq-NO_NUMBER c = rw (eq-eqb _ _ c.if-fault-eq-NO_NUMBER.true) c.put_place.ensures

pub returns-else-fault-eq-NO_NUMBER : goal.returns-else-fault-eq-NO_NUMBER
unfolding record_fault text
returns-else-fault-eq-NO_NUMBER c = rw (ne_eqb _ _ c.if-fault-eq-NO_NUMBER.false) c.put_place-else-fault-eq-NO_NUMBER.ensures
